-- Aggregates of groups, one row more.
use Rattle.std.proofs.Common.{◌≡◌, refl, ap, sym, ◌∙◌, ℕ, zero, suc, ◌+◌, ◌*◌, ◌<◌, ◌≤◌, ◌^◌, Bool, List, [], ◌∷◌, ◌++◌, length, get_or, map, filter, set, arith}
use Rattle.std.specs.List.{AllByRecursion}
use mathlib.Core.List.{map-map}
use Rattle.std.proofs.lemmas.List.{map-append, length-map}
use Rattle.values.specs.declared.value.Value.{Value}
use Rattle.values.specs.declared.value.Value.TheVariants.{Null, Int, Text}
use Rattle.values.specs.Short.{IsShort}
use Rattle.values.proofs.Each.{all_filter, all_map}
use Rattle.query.specs.declared.query.Aggregate.{Aggregate}
use Rattle.query.specs.declared.query.Aggregate.TheVariants as by
use Rattle.query.specs.Aggregates.{MayRead, aggregate_of, column_of, known, magnitude, one_more, plus, size_of, together}
use Rattle.query.proofs.RunningAggregates.{aggregated, aggregated-more, aggregated-rows}
use Rattle.algebra.specs.Bags.{Env}
use Rattle.grouping.specs.Groups.{GroupOf, added_at, group_values}
use Rattle.grouping.proofs.RunningGroups.{length-filter}

module _ (a : Aggregate) (value : ℕ → Value) where
  -- in a group that is there
  pub more-within : (groups : List (GroupOf ℕ)) (n row : ℕ) (d : Value) → n < length groups → set (group_values a value groups) n (one_more a (value row) (get_or (group_values a value groups) n d)) ≡ group_values a value (added_at n row groups)
  more-within [] n row d below = absurd (omega (arith, below))
  more-within (g ∷ groups) zero row d below = ap (λ v. v ∷ group_values a value groups) (sym (ap (aggregated a) (map-append value g.rows (row ∷ [])) ∙ aggregated-more a (map value g.rows) (value row)))
  more-within (g ∷ groups) (suc n) row d below = ap (λ vs. aggregated a (map value g.rows) ∷ vs) (more-within groups n row d (omega (arith, below)))

  -- and in a new one
  pub more-past : (groups : List (GroupOf ℕ)) (n row : ℕ) → length groups ≤ n → group_values a value groups ++ aggregated a (value row ∷ []) ∷ [] ≡ group_values a value (added_at n row groups)
  more-past [] n row past = refl
  more-past (g ∷ groups) zero row past = absurd (omega (arith, past))
  more-past (g ∷ groups) (suc n) row past = ap (λ vs. aggregated a (map value g.rows) ∷ vs) (more-past groups n row (omega (arith, past)))

pub values-many : (a : Aggregate) (value : ℕ → Value) (groups : List (GroupOf ℕ)) → length (group_values a value groups) ≡ length groups
values-many a value groups = length-map groups (λ g. aggregated a (map value g.rows))

-- what they are, by the rows of the groups
pub values-of-rows : (a : Aggregate) (row : ℕ → Env) (groups : List (GroupOf ℕ)) → group_values a (λ n. row n (column_of a)) groups ≡ map (λ g. aggregate_of a (length (map row g.rows)) (λ k. map (λ r. r k) (map row g.rows))) groups
values-of-rows a row [] = refl
values-of-rows a row (g ∷ groups) =
    let here : aggregated a (map (λ n. row n (column_of a)) g.rows) ≡ aggregate_of a (length (map row g.rows)) (λ k. map (λ r. r k) (map row g.rows)) =
    ap (aggregated a) (sym (map-map (λ (r : Env). r (column_of a)) row g.rows)) ∙ aggregated-rows a (λ k r. r k) (map row g.rows) in
    rw (here, values-of-rows a row groups) refl

-- ---- how large they are

known-few : (vs : List Value) → known vs ≤ length vs
known-few [] = omega arith
known-few (Null ∷ vs) = omega (arith, known-few vs)
known-few (Int n ∷ vs) = omega (arith, known-few vs)
known-few (Text t ∷ vs) = omega (arith, known-few vs)

plus-size : (v w : Value) → IsShort v → magnitude (plus v w) ≤ magnitude w + 2 ^ 63
plus-size Null w short = omega arith
plus-size (Text t) w short = omega arith
plus-size (Int m) Null short = grind (arith, short)
plus-size (Int m) (Int n) short = grind (arith, short)
plus-size (Int m) (Text t) short = grind (arith, short)

sum-size : (vs : List Value) → AllByRecursion IsShort vs → magnitude (together plus vs) ≤ length vs * 2 ^ 63
sum-size [] all = omega arith
sum-size (v ∷ vs) all = omega (arith, plus-size v (together plus vs) all.0, sum-size vs all.1)

aggregate-size : (a : Aggregate) (vs : List Value) → AllByRecursion (λ v. MayRead a (λ place. v)) vs → size_of a (aggregated a vs) ≤ length vs * 2 ^ 63
aggregate-size by.CountRows vs all = omega arith
aggregate-size (by.Count c) vs all = omega (arith, known-few vs)
aggregate-size (by.Sum c) vs all = sum-size vs all
aggregate-size (by.Min c) vs all = omega arith
aggregate-size (by.Max c) vs all = omega arith

-- no aggregate of groups is larger than one of all rows
pub values-size : (a : Aggregate) (value : ℕ → Value) (same : ℕ → ℕ → Bool) (rows firsts : List ℕ) → AllByRecursion (λ n. MayRead a (λ place. value n)) rows
    → AllByRecursion (λ v. size_of a v ≤ length rows * 2 ^ 63) (group_values a value (map (λ n. record { first = n; rows = filter (same n) rows }) firsts))
values-size a value same rows [] all = tt
values-size a value same rows (n ∷ firsts) all =
    let members : List ℕ = filter (same n) rows in
    let size = aggregate-size a (map value members) (all_map (λ m. MayRead a (λ place. value m)) (λ v. MayRead a (λ place. v)) value (λ m read. read) members (all_filter (λ m. MayRead a (λ place. value m)) (same n) rows all)) in
    let many : length (map value members) ≡ length members = length-map members value in
    let few : length members ≤ length rows = length-filter (same n) rows in
    (omega (arith, size, many, few), values-size a value same rows firsts all)
