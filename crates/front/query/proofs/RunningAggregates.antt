-- An aggregate of one value more, and of rows by the column that it reads.
use Rattle.std.proofs.Common.{◌≡◌, refl, ap, sym, ◌∙◌, subst, ℕ, ◌+◌, pos, if◌then◌else◌, List, [], ◌∷◌, ◌++◌, length, map, arith}
use Rattle.std.proofs.lemmas.List.{length-append, length-map}
use Rattle.values.specs.declared.value.Value.{Value}
use Rattle.values.specs.declared.value.Value.TheVariants.{Null, Int, Text}
use Rattle.values.specs.Truth.{is_null}
use Rattle.query.specs.declared.query.Aggregate.{Aggregate}
use Rattle.query.specs.declared.query.Aggregate.TheVariants as by
use Rattle.values.specs.Short.{IsShort}
use Rattle.query.specs.Aggregates.{known, plus, lesser, greater, together, aggregate_of, MayRead, column_of, one_more}
use Rattle.query.proofs.Groups.{plus-swap, lesser-swap, greater-swap}

-- ---- one value more

together-last : (f : Value → Value → Value) → ((a x m : Value) → f a (f x m) ≡ f x (f a m)) → (vs : List Value) (v : Value) → together f (vs ++ v ∷ []) ≡ f v (together f vs)
together-last f swap [] v = refl
together-last f swap (w ∷ vs) v = ap (f w) (together-last f swap vs v) ∙ swap w v (together f vs)

known-last : (vs : List Value) (v : Value) → known (vs ++ v ∷ []) ≡ known vs + (if is_null v then 0 else 1)
known-last [] v = omega arith
known-last (w ∷ vs) v = omega (arith, known-last vs v)

-- the aggregate of values, one of each row
abbrev pub aggregated : Aggregate → List Value → Value
aggregated a vs = aggregate_of a (length vs) (λ place. vs)

counted : (v : Value) (n m : ℕ) → m ≡ n + (if is_null v then 0 else 1) → Int (pos m) ≡ plus (if is_null v then Null else Int (pos 1)) (Int (pos n))
counted Null n m e = ap (λ k. Int (pos k)) (omega (arith, e))
counted (Int k) n m e = ap (λ k. Int (pos k)) (omega (arith, e))
counted (Text t) n m e = ap (λ k. Int (pos k)) (omega (arith, e))

pub aggregated-more : (a : Aggregate) (vs : List Value) (v : Value) → aggregated a (vs ++ v ∷ []) ≡ one_more a v (aggregated a vs)
aggregated-more by.CountRows vs v = ap (λ k. Int (pos k)) (omega (arith, length-append vs (v ∷ [])))
aggregated-more (by.Count c) vs v = counted v (known vs) (known (vs ++ v ∷ [])) (known-last vs v)
aggregated-more (by.Sum c) vs v = together-last plus plus-swap vs v
aggregated-more (by.Min c) vs v = together-last lesser lesser-swap vs v
aggregated-more (by.Max c) vs v = together-last greater greater-swap vs v

-- the aggregate of rows, by the column that it reads
pub aggregated-rows : {X : Type 0} (a : Aggregate) (read : ℕ → X → Value) (xs : List X) → aggregated a (map (read (column_of a)) xs) ≡ aggregate_of a (length xs) (λ place. map (read place) xs)
aggregated-rows by.CountRows read xs = ap (λ n. Int (pos n)) (length-map xs (read 0))
aggregated-rows (by.Count c) read xs = refl
aggregated-rows (by.Sum c) read xs = refl
aggregated-rows (by.Min c) read xs = refl
aggregated-rows (by.Max c) read xs = refl

-- ---- what it may read

-- an aggregate that may read a row may read what the row has in its column
pub read-column : (a : Aggregate) (row : ℕ → Value) (v : Value) → MayRead a row → v ≡ row (column_of a) → MayRead a (λ place. v)
read-column by.CountRows row v read is = tt
read-column (by.Count c) row v read is = tt
read-column (by.Sum c) row v read is = subst IsShort (sym is) read
read-column (by.Min c) row v read is = tt
read-column (by.Max c) row v read is = tt
