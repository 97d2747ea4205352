use Rattle.std.proofs.Common.{◌≡◌, rules}
use Rattle.std.specs.declared.cmp.Ordering.TheVariants.{Less}
use Rattle.values.specs.Cells.{value_of}
use Rattle.values.specs.Order.{order}
use Rattle.store.proofs.Rising.{value_first, value_next}
use Rattle.store.proofs.unique.value_rises.Goals as goal
use Rattle.store.proofs.unique.value_rises.Goals.{in-Some+else-ne, in_default}

pub loop-row-preserved : goal.loop-row-preserved
loop-row-preserved c =
    let v = value_of c.cell-cell.result in
    elim c.match-last.branch [
      | in-Some+else-ne w ↦
          let below : order (value_of w.in-Some.before) v ≡ Less = search rules in
          value_next c.args.rows.now c.args.place c.loop-row.row v w.in-Some.before c.loop-row.last c.loop-row.invariant w.in-Some.is c.cell-cell.ensures below
      | in_default w ↦ value_first c.args.rows.now c.args.place c.loop-row.row v c.loop-row.last c.loop-row.invariant w.in_default.is c.cell-cell.ensures
    ]
