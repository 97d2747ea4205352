-- Aggregates of rows, and the row with them.
use Rattle.std.proofs.Common.{◌≡◌, refl, sym, ◌∙◌, ap, ◌⊎◌, inl, inr, ◌+◌, ◌<◌, ◌≤◌, ℕ, zero, suc, if◌then◌else◌, List, [], ◌∷◌, drop, eq-eqb, get_or, length, map, arith}
use Rattle.std.proofs.lemmas.List.{get_or_default}
use Rattle.values.proofs.Lists.{drop_next}
use Rattle.values.specs.Cells.{value_of}
use Rattle.query.specs.declared.aggregates.Running.{Running}
use Rattle.query.specs.declared.query.Aggregate.{Aggregate}
use Rattle.query.specs.declared.query.Aggregate.TheVariants as by
use Rattle.query.specs.Aggregates.{aggregate_of, column_of}
use Rattle.query.specs.Running.{IsAfter}
use Rattle.query.proofs.RunningAggregates.{aggregated-rows}
use Rattle.algebra.specs.declared.expr.Aggregation.{Aggregation}
use Rattle.algebra.specs.Bags.{Env}
use Rattle.algebra.specs.Expressions.{with_aggregates}

-- what stands past the end of a list of aggregates
abbrev pub none : Aggregation
none = record { column = 0; aggregate = by.CountRows }

-- one that reads a column is not the count of all rows
pub reads-column : (a : Aggregate) → ((c : ℕ) × (a ≡ by.Count c)) ⊎ (((c : ℕ) × (a ≡ by.Sum c)) ⊎ (((c : ℕ) × (a ≡ by.Min c)) ⊎ ((c : ℕ) × (a ≡ by.Max c)))) → (a ≡ by.CountRows) → ⊥
reads-column a (inl h) is = let e = sym h.1 ∙ is in cc e
reads-column a (inr (inl h)) is = let e = sym h.1 ∙ is in cc e
reads-column a (inr (inr (inl h))) is = let e = sym h.1 ∙ is in cc e
reads-column a (inr (inr (inr h))) is = let e = sym h.1 ∙ is in cc e

-- what it is of rows
pub held-value : (a : Aggregate) (rows : List Env) (r : Running) → IsAfter a (map (λ e. e (column_of a)) rows) r → value_of r.so_far ≡ aggregate_of a (length rows) (λ k. map (λ e. e k) rows)
held-value a rows r after = after.holds ∙ aggregated-rows a (λ k (e : Env). e k) rows

-- ---- the aggregate in a column, from one of the aggregates on

pub aggregate-here : (A : List Aggregation) (i : ℕ) (d : Aggregation) (rows : List Env) (r : Env) (c : ℕ) → i < length A → (get_or A i d).column ≡ c
    → with_aggregates (drop i A) rows r c ≡ aggregate_of (get_or A i d).aggregate (length rows) (λ k. map (λ s. s k) rows)
aggregate-here A i d rows r c below is =
    let a = get_or A i d in
    ap (λ l. with_aggregates l rows r c) (drop_next A i a below (get_or_default A i d a below))
    ∙ ap (λ b. if b then aggregate_of a.aggregate (length rows) (λ k. map (λ s. s k) rows) else with_aggregates (drop (i + 1) A) rows r c) (eq-eqb a.column c is)

pub aggregate-none : (A : List Aggregation) (i : ℕ) (rows : List Env) (r : Env) (c : ℕ) → length A ≤ i → with_aggregates (drop i A) rows r c ≡ r c
aggregate-none [] zero rows r c past = refl
aggregate-none [] (suc i) rows r c past = refl
aggregate-none (a ∷ A) zero rows r c past = absurd (omega (arith, past))
aggregate-none (a ∷ A) (suc i) rows r c past = aggregate-none A i rows r c (omega (arith, past))
