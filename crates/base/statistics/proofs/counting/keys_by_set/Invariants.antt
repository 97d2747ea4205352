use Rattle.std.proofs.Common.{◌≡◌, map, take}
use Rattle.std.specs.HashSet as hash
use Rattle.std.specs.Set.{is_member}
use Rattle.schema.specs.Databases.{Row, values_at}
use Rattle.store.specs.Keys.{key_eq}
use Rattle.statistics.proofs.counting.keys_by_set.Given as goal

-- the set has the keys of the rows so far
abbrev pub invariant-loop-row : goal.invariant-loop-row
invariant-loop-row l = ((q : Row) → hash.contains key_eq l.keys q ≡ is_member key_eq (take l.row (map (values_at l.places) l.rows)) q) × (hash.IsUnique key_eq l.keys)
