use Rattle.std.proofs.Common.{sym, subst, ◌∙◌, get_or}
use Rattle.query.specs.declared.aggregates.Running.{Running}
use Rattle.algebra.specs.declared.expr.Aggregation.{Aggregation}
use Rattle.relations.specs.Relations.{env_of}
use Rattle.grouping.specs.Totals.{IsHeld}
use Rattle.grouping.proofs.AllRows.{aggregate-here, aggregate-none, none}
use Rattle.grouping.proofs.Zips.{zip-at}
use Rattle.grouping.proofs.totals.Totals.cell.Goals as goal

pub returns-then-one-column : goal.returns-then-one-column
returns-then-one-column c = λ rows totals.
    let A = c.args.added.now in
    let i = c.loop-number.number in
    let e = env_of c.args.env.now in
    let at = zip-at (λ (a : Aggregation) (r : Running). IsHeld a.aggregate rows r) A c.args.self.now.running.items i none c.index.result.now totals.held c.loop-number-test.true in
    c.total_of.ensures rows totals.count_is (subst (IsHeld (get_or A i none).aggregate rows) (sym c.index.ensures) at)
    ∙ sym (c.loop-number.invariant rows e ∙ aggregate-here A i none rows e c.args.column c.loop-number-test.true c.if-one-column.true)

pub returns : goal.returns
returns c = λ rows totals.
    c.column.ensures ∙ sym (c.loop-number.invariant rows (env_of c.args.env.now) ∙ aggregate-none c.args.added.now c.loop-number.number rows (env_of c.args.env.now) c.args.column c.loop-number-test.false)
