-- Aggregates of groups, while rows come one by one.
use Rattle.std.proofs.Common.{◌≡◌, refl, ap, sym, ◌∙◌, subst, ℕ, zero, suc, ◌+◌, ◌<◌, ◌≤◌, ◌^◌, Bool, true, false, if◌then◌else◌, List, [], ◌∷◌, ◌++◌, length, get_or, map, filter, set, arith}
use Rattle.std.specs.List.{AllByRecursion}
use mathlib.Core.List.{map-map}
use Rattle.std.proofs.lemmas.List.{map-append, length-map}
use Rattle.values.specs.declared.value.Value.{Value}
use Rattle.values.specs.Cells.{value_of}
use Rattle.query.specs.declared.query.Aggregate.{Aggregate}
use Rattle.query.specs.declared.aggregates.Running.{Running}
use Rattle.query.specs.Aggregates.{aggregate_of, column_of}
use Rattle.query.specs.Running.{IsAfter}
use Rattle.query.proofs.RunningAggregates.{aggregated, aggregated-rows}
use Rattle.algebra.specs.Bags.{Env}
use Rattle.grouping.specs.Groups.{GroupOf, added_at, AreAfter}

module _ (a : Aggregate) (value : ℕ → Value) where
  -- one row more in a group that is there
  pub after-within : (groups : List (GroupOf ℕ)) (running : List Running) (n row : ℕ) (r s : Running) → n < length running → get_or running n r ≡ r
      → ((vs : List Value) → IsAfter a vs r → IsAfter a (vs ++ value row ∷ []) s) → AreAfter a value groups running → AreAfter a value (added_at n row groups) (set running n s)
  after-within [] [] n row r s below is more all = absurd (omega (arith, below))
  after-within [] (x ∷ running) n row r s below is more all = absurd all
  after-within (g ∷ groups) [] n row r s below is more all = absurd all
  after-within (g ∷ groups) (x ∷ running) zero row r s below is more all =
      (subst (λ vs. IsAfter a vs s) (sym (map-append value g.rows (row ∷ []))) (more (map value g.rows) (subst (IsAfter a (map value g.rows)) is all.0)), all.1)
  after-within (g ∷ groups) (x ∷ running) (suc n) row r s below is more all = (all.0, after-within groups running n row r s (omega (arith, below)) is more all.1)

  -- and in a new one
  pub after-past : (groups : List (GroupOf ℕ)) (running : List Running) (n row : ℕ) (s : Running) → length running ≤ n → IsAfter a (value row ∷ []) s → AreAfter a value groups running
      → AreAfter a value (added_at n row groups) (running ++ s ∷ [])
  after-past [] [] n row s past here all = (here, tt)
  after-past [] (x ∷ running) n row s past here all = absurd all
  after-past (g ∷ groups) [] n row s past here all = absurd all
  after-past (g ∷ groups) (x ∷ running) zero row s past here all = absurd (omega (arith, past))
  after-past (g ∷ groups) (x ∷ running) (suc n) row s past here all = (all.0, after-past groups running n row s (omega (arith, past)) here all.1)

  -- no group has more rows than there are
  pub after-few : (groups : List (GroupOf ℕ)) (running : List Running) (most : ℕ) → most + 1 < 2 ^ 64 → AllByRecursion (λ g. length g.rows ≤ most) groups → AreAfter a value groups running
      → AllByRecursion (λ r. (r.of ≡ a) × (r.rows + 1 < 2 ^ 64)) running
  after-few [] [] most below few all = tt
  after-few [] (x ∷ running) most below few all = absurd all
  after-few (g ∷ groups) [] most below few all = absurd all
  after-few (g ∷ groups) (x ∷ running) most below few all =
      let rows : x.rows ≡ length g.rows = all.0.rows ∙ length-map g.rows value in
      let short : length g.rows ≤ most = few.0 in
      ((all.0.of, omega (arith, rows, short, below)), after-few groups running most below few.1 all.1)

pub length-filter : {X : Type 0} (p : X → Bool) (xs : List X) → length (filter p xs) ≤ length xs
length-filter p [] = omega arith
length-filter p (x ∷ xs) = by (p x) (length-filter p xs)
  where
    by : (b : Bool) → length (filter p xs) ≤ length xs → length (if b then x ∷ filter p xs else filter p xs) ≤ suc (length xs)
    by true few = omega (arith, few)
    by false few = omega (arith, few)

-- a group's rows are among those that are grouped
pub groups-few : {X : Type 0} (same : X → X → Bool) (rows firsts : List X) → AllByRecursion (λ (g : GroupOf X). length g.rows ≤ length rows) (map (λ r. record { first = r; rows = filter (same r) rows }) firsts)
groups-few same rows [] = tt
groups-few same rows (r ∷ firsts) = (length-filter (same r) rows, groups-few same rows firsts)

-- what they are in the end
pub after-values : (a : Aggregate) (row : ℕ → Env) (groups : List (GroupOf ℕ)) (running : List Running) → AreAfter a (λ n. row n (column_of a)) groups running
    → map (λ r. value_of r.so_far) running ≡ map (λ g. aggregate_of a (length (map row g.rows)) (λ k. map (λ r. r k) (map row g.rows))) groups
after-values a row [] [] all = refl
after-values a row [] (x ∷ running) all = absurd all
after-values a row (g ∷ groups) [] all = absurd all
after-values a row (g ∷ groups) (x ∷ running) all =
    let here : value_of x.so_far ≡ aggregate_of a (length (map row g.rows)) (λ k. map (λ r. r k) (map row g.rows)) =
    all.0.holds ∙ ap (aggregated a) (sym (map-map (λ (r : Env). r (column_of a)) row g.rows)) ∙ aggregated-rows a (λ k r. r k) (map row g.rows) in
    rw (here, after-values a row groups running all.1) refl
