-- The tables of the worked rows satisfy their schema.
use Rattle.std.proofs.Common.{◌≡◌, ◌≢◌, refl, ℕ, zero, suc, ◌<◌, Bool, true, false, ◌&&◌, ◌||◌, not, List, [], ◌∷◌, length, arith, rules, pos}
use Rattle.std.proofs.lemmas.Bool.{and_parts}
use Rattle.std.proofs.lemmas.Int.{fits_signed_from_abs}
use Rattle.std.specs.Prelude.{FitsSigned, slice_index_or}
use Rattle.std.specs.Int.{w64}
use Rattle.std.specs.List.{list_any}
use Rattle.values.specs.Truth.{is_null}
use Rattle.schema.specs.Databases.{Row, values_at, IsUnique, Satisfies}
use Rattle.query.specs.Rows.{same_rows}
use Rattle.query.specs.Examples.{company, company_rows, dept_rows, emp_rows}
use Rattle.query.proofs.Counting.{same_rows-from}

-- the first row has a Null at the places, or the second has other values there
abbrev apart : List ℕ → Row → Row → Bool
apart places r s = list_any is_null (values_at places r) || not (same_rows (values_at places r) (values_at places s))

abbrev apart_from_all : List ℕ → Row → List Row → Bool
apart_from_all places r [] = true
apart_from_all places r (s ∷ rows) = apart places r s && apart_from_all places r rows

abbrev all_apart : List ℕ → List Row → Bool
all_apart places [] = true
all_apart places (r ∷ rows) = apart_from_all places r rows && all_apart places rows

apart-at : (places : List ℕ) (r : Row) (rows : List Row) → apart_from_all places r rows ≡ true → (j : ℕ) → j < length rows → apart places r (slice_index_or rows j []) ≡ true
apart-at places r [] h j k = absurd (omega arith)
apart-at places r (s ∷ rows) h zero k = (and_parts (apart places r s) _ h).0
apart-at places r (s ∷ rows) h (suc j) k = apart-at places r rows (and_parts (apart places r s) _ h).1 j (omega arith)

differ : (places : List ℕ) (r s : Row) → apart places r s ≡ true → list_any is_null (values_at places r) ≡ false → values_at places r ≢ values_at places s
differ places r s h none e = by _ _ none (same_rows-from _ _ e) h
  where
    by : (b c : Bool) → b ≡ false → c ≡ true → b || not c ≡ true → ⊥
    by true c f g k = cc
    by false true f g k = cc
    by false false f g k = cc

unique-apart : (places : List ℕ) (rows : List Row) → all_apart places rows ≡ true → IsUnique rows places
unique-apart places [] h i j k m = absurd (omega arith)
unique-apart places (r ∷ rows) h zero zero k m = absurd (omega arith)
unique-apart places (r ∷ rows) h zero (suc j) k m = differ places r _ (apart-at places r rows (and_parts (apart_from_all places r rows) _ h).0 j (omega arith))
unique-apart places (r ∷ rows) h (suc i) zero k m = absurd (omega arith)
unique-apart places (r ∷ rows) h (suc i) (suc j) k m = unique-apart places rows (and_parts (apart_from_all places r rows) _ h).1 i j (omega arith) (omega arith)

fits : (n : ℕ) → n < 1000 → FitsSigned w64 (pos n)
fits n h = fits_signed_from_abs w64 (pos n) (omega arith)

pub company_satisfies : Satisfies company company_rows
company_satisfies = (
  record { few = omega arith; fit = search (rules, fits); unique = (unique-apart (0 ∷ []) dept_rows refl, tt) },
  (record { few = omega arith; fit = search (rules, fits); unique = (unique-apart (0 ∷ []) emp_rows refl, (unique-apart (3 ∷ []) emp_rows refl, tt)) }, tt),
)
