use Rattle.std.proofs.Common.{◌≡◌, ◌∙◌, sym, arith, get_or}
use Rattle.std.specs.declared.cmp.Ordering.TheVariants.{Less}
use Rattle.values.specs.declared.value.Value.TheVariants as value
use Rattle.values.specs.Order.{order}
use Rattle.store.proofs.Rising.{below_there}
use Rattle.store.proofs.RowKeys.{keys_tie}
use Rattle.store.proofs.key.RowKey.is_below.Goals as goal

pub returns-in-Less : goal.returns-in-Less
returns-in-Less c =
    let n = c.loop-number.number in
    let less : order (get_or c.args.self.now n value.Null) (get_or c.args.other.now n value.Null) ≡ Less = rw (← c.cell.ensures, ← c.cell-in-loop-number.ensures) (sym c.order.ensures ∙ c.in-Less.is) in
    λ t. below_there c.args.self.now c.args.other.now n (omega arith) (omega arith) c.loop-number.invariant less

pub loop-number-preserved : goal.loop-number-preserved
loop-number-preserved c = keys_tie c.args.self.now c.args.other.now c.loop-number.number c.cell.result c.cell-in-loop-number.result (omega arith) (omega arith) c.cell.ensures c.cell-in-loop-number.ensures (sym c.order.ensures ∙ c.in-Equal.is) c.loop-number.invariant
