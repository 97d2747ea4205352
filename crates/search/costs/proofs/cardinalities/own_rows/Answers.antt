use Rattle.std.proofs.Common.{rules, ◌∙◌, []}
use Rattle.props.specs.Knowledge.{known}
use Rattle.costs.proofs.RowsWhere.{equations-more, rows-more}
use Rattle.costs.proofs.cardinalities.own_rows.Goals as goal

pub loop-number-preserved : goal.loop-number-preserved
loop-number-preserved c =
    let lines = c.args.lines.now in
    let K = known c.args.classes in
    let n = c.loop-number.number in
    record {
      count = search rules;
      each = rows-more c.args.statistics.now c.args.instances.now K [] c.loop-number.rows.items c.push.new.self.items lines n _ c.in_ok-own.own c.loop-number-test.true c.loop-number.invariant.count c.index-lines-number.is c.in_ok-push.ensures.items c.in_ok-own.ensures c.loop-number.invariant.each;
      as_many = search rules;
      equal = equations-more K.root c.loop-number.equations.items c.push-in-loop-number.new.self.items lines n _ _ c.loop-number-test.true c.loop-number.invariant.as_many c.index-lines-number.is c.in_ok-push-2.ensures.items (c.from_vec.ensures ∙ c.in_ok-equal.ensures) c.loop-number.invariant.equal;
    }
