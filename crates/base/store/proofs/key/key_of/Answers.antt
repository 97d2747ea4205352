use Rattle.std.proofs.Common.{◌∙◌, [], get_or, sym, ap, arith}
use Rattle.values.specs.Truth.{is_null}
use Rattle.store.proofs.Keys.{null_there}
use Rattle.store.proofs.key.key_of.Goals as goal

pub returns-then-is_null : goal.returns-then-is_null
returns-then-is_null c = rw (← c.as_slice-place-items.ensures) (null_there c.as_slice-place-items.result.now (get_or c.args.rows.now c.args.row []) c.loop-place.place-index (omega arith) (ap is_null (sym c.cell.ensures) ∙ sym c.is_null.ensures ∙ c.if-is_null.true))
