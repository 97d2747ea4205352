-- The values of a row at some places.
use Rattle.std.proofs.Common.{◌≡◌, ℕ, zero, suc, ◌<◌, List, [], ◌∷◌, length, get_or, true, slice_index_or, refl, arith}
use Rattle.std.specs.List.{list_any}
use Rattle.std.proofs.Math.Bool.{or-true}
use Rattle.values.specs.declared.value.Value.TheVariants as value
use Rattle.values.specs.Truth.{is_null}
use Rattle.schema.specs.Databases.{Row, values_at}

pub null_there : (places : List ℕ) (row : Row) (i : ℕ) → i < length places → is_null (slice_index_or row (get_or places i 0) value.Null) ≡ true → list_any is_null (values_at places row) ≡ true
null_there [] row i lt e = absurd (omega arith)
null_there (p ∷ ps) row zero lt e = rw e refl
null_there (p ∷ ps) row (suc i) lt e = rw (null_there ps row i (omega arith) e) (or-true _)
