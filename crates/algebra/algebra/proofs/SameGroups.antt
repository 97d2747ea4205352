-- The aggregates of rows go by how often each row comes.
use Rattle.std.proofs.Common.{◌≡◌, refl, ap, sym, ◌∙◌, ℕ, ◌+◌, ◌==◌, pos, if◌then◌else◌, List, [], ◌∷◌, length, map, arith}
use mathlib.Core.List.{map-map}
use Rattle.values.specs.declared.value.Value.{Value}
use Rattle.values.specs.declared.value.Value.TheVariants.{Int}
use Rattle.schema.specs.Databases.{Row}
use Rattle.query.specs.declared.query.Aggregate.{Aggregate}
use Rattle.query.specs.declared.query.Aggregate.TheVariants as by
use Rattle.query.specs.Rows.{value_at, same_rows, count}
use Rattle.query.specs.Aggregates.{aggregate, aggregate_of, known, together, plus, lesser, greater}
use Rattle.query.proofs.SameCounts.{SameCounts}
use Rattle.query.proofs.Groups.{same-aggregate}
use Rattle.algebra.specs.declared.expr.Aggregation.{Aggregation}
use Rattle.algebra.specs.Bags.{Env, Bag, total, SameRows, SameBag, group}
use Rattle.algebra.specs.Expressions.{with_aggregates}
use Rattle.algebra.proofs.Lists.{two}
use Rattle.algebra.proofs.SameBags.{GoesByRows, group-same}

-- a row of the one column
abbrev one : ℕ → Env → Row
one k s = s k ∷ []

count-one : (r : Row) (k : ℕ) (xs : List Env) → count r (map (one k) xs) ≡ total (λ s. if same_rows r (one k s) then 1 else 0) xs
count-one r k [] = refl
count-one r k (x ∷ xs) = ap (λ n. (if same_rows r (one k x) then 1 else 0) + n) (count-one r k xs)

same-column : (k : ℕ) (xs ys : List Env) → SameRows xs ys → SameCounts (map (one k) xs) (map (one k) ys)
same-column k xs ys h r = count-one r k xs ∙ h (λ s. if same_rows r (one k s) then 1 else 0) ∙ sym (count-one r k ys)

pub total-length : (xs : List Env) → total (λ r. 1) xs ≡ length xs
total-length [] = refl
total-length (x ∷ xs) = omega (arith, total-length xs)

pub length-same : (xs ys : List Env) → SameRows xs ys → length xs ≡ length ys
length-same xs ys h = sym (total-length xs) ∙ h (λ r. 1) ∙ total-length ys

-- rows of one column have its values at place 0
one-values : (k : ℕ) (xs : List Env) → map (value_at 0) (map (one k) xs) ≡ map (λ s. s k) xs
one-values k xs = map-map (value_at 0) (one k) xs

-- an aggregate of one column's values, by one of rows of that column
column-same : (a : Aggregate) (F : List Value → Value) → ((L : List Row) → aggregate a L ≡ F (map (value_at 0) L)) → (k : ℕ) (xs ys : List Env) → SameRows xs ys
    → F (map (λ s. s k) xs) ≡ F (map (λ s. s k) ys)
column-same a F is k xs ys h =
    sym (is (map (one k) xs) ∙ ap F (one-values k xs))
    ∙ same-aggregate a (map (one k) xs) (map (one k) ys) (same-column k xs ys h)
    ∙ is (map (one k) ys) ∙ ap F (one-values k ys)

pub aggregate-same : (a : Aggregate) (xs ys : List Env) → SameRows xs ys → aggregate_of a (length xs) (λ k. map (λ s. s k) xs) ≡ aggregate_of a (length ys) (λ k. map (λ s. s k) ys)
aggregate-same by.CountRows xs ys h = ap (λ n. Int (pos n)) (length-same xs ys h)
aggregate-same (by.Count k) xs ys h = column-same (by.Count 0) (λ vs. Int (pos (known vs))) (λ L. refl) k xs ys h
aggregate-same (by.Sum k) xs ys h = column-same (by.Sum 0) (together plus) (λ L. refl) k xs ys h
aggregate-same (by.Min k) xs ys h = column-same (by.Min 0) (together lesser) (λ L. refl) k xs ys h
aggregate-same (by.Max k) xs ys h = column-same (by.Max 0) (together greater) (λ L. refl) k xs ys h

pub with_aggregates-same : (G : List Aggregation) → GoesByRows (with_aggregates G)
with_aggregates-same G xs ys h r = λ i c. at G c i
  where
    at : (G : List Aggregation) (c : ℕ) → with_aggregates G xs r c ≡ with_aggregates G ys r c
    at [] c = refl
    at (a ∷ G) c = two (λ v w. if a.column == c then v else w) (aggregate-same a.aggregate xs ys h) (at G c)

-- a Group keeps the same bags
pub aggregated-same : (K : List ℕ) (G : List Aggregation) (a b : Bag) → SameBag a b → SameBag (group K (with_aggregates G) a) (group K (with_aggregates G) b)
aggregated-same K G = group-same K (with_aggregates G) (with_aggregates-same G)
