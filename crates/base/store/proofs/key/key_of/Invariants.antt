use Rattle.std.proofs.Common.{◌≡◌, [], false, get_or, take}
use Rattle.std.specs.List.{list_any}
use Rattle.values.specs.Truth.{is_null}
use Rattle.schema.specs.Databases.{values_at}
use Rattle.store.proofs.key.key_of.Given as goal

abbrev pub invariant-loop-place : goal.invariant-loop-place
invariant-loop-place l = list_any is_null (values_at (take l.place-index l.places) (get_or l.rows l.row [])) ≡ false
