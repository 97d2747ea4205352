use Rattle.std.proofs.Common.{◌≡◌, ℕ, take}
use Rattle.relations.specs.Parts.{row_at}
use Rattle.grouping.specs.Groups.{key_at}
use Rattle.grouping.specs.KeyBuckets.{column_key}
use Rattle.grouping.proofs.keys.placed_columns.Given as goal

abbrev pub invariant-loop-place : goal.invariant-loop-place
invariant-loop-place l = (n : ℕ) → column_key l.columns.items n ≡ key_at (take l.place-index l.places) (row_at l.rows.parts.items n)
