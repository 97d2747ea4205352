-- The outcomes of each form of condition: one equation each.
use Rattle.std.proofs.Common.{◌≡◌, refl, ap, sym, ◌∙◌, ℕ, ◌||◌, true, false, List, [], ◌∷◌, map, fold}
use Rattle.values.specs.declared.truth.Comparison.{Comparison}
use Rattle.algebra.specs.declared.condition.Term.{Term}
use Rattle.algebra.specs.declared.condition.Condition.{Condition, roll-Condition, fold-roll-Condition, map-Condition}
use Rattle.algebra.specs.declared.condition.Condition.TheVariants.{Compare, IsNull, Not, And, Or, Exists, In, rolls-Compare, rolls-IsNull, rolls-Not, rolls-And, rolls-Or, rolls-Exists, rolls-In}
use Rattle.algebra.specs.declared.condition.Condition.TheOpen.{Condition-F}
use Rattle.algebra.specs.Columns.{ColumnSet}
use Rattle.props.specs.declared.outcomes.Truths.{Truths}
use Rattle.props.specs.Outcomes.{outcomes, outcomes_layer, is_nulled, null_outcomes, known, compared, of_not, of_and, of_or}

outcomes-at : (x : Condition-F Condition) (c : Condition) → roll-Condition x ≡ c → (N : ColumnSet) → outcomes c N ≡ outcomes_layer (map-Condition Condition (ColumnSet → Truths) outcomes x) N
unfolding outcomes
outcomes-at x c is N = ap (λ d. outcomes d N) (sym is) ∙ ap (λ f. f N) (fold-roll-Condition (ColumnSet → Truths) outcomes_layer x)

each : (N : ColumnSet) (cs : List Condition) → map (λ c. c N) (map outcomes cs) ≡ map (λ c. outcomes c N) cs
each N [] = refl
each N (c ∷ cs) = ap (λ xs. outcomes c N ∷ xs) (each N cs)

module _ (N : ColumnSet) where
  pub outcomes-Compare : (op : Comparison) (a b : Term) → outcomes (Compare op a b) N ≡ compared (is_nulled N a || is_nulled N b) false
  outcomes-Compare op a b = outcomes-at (Condition-F.Compare op a b) _ (rolls-Compare op a b) N

  pub outcomes-IsNull : (a : Term) → outcomes (IsNull a) N ≡ null_outcomes N a
  outcomes-IsNull a = outcomes-at (Condition-F.IsNull a) _ (rolls-IsNull a) N

  pub outcomes-Not : (c : Condition) → outcomes (Not c) N ≡ of_not (outcomes c N)
  outcomes-Not c = outcomes-at (Condition-F.Not c) _ (rolls-Not c) N

  pub outcomes-And : (a b : Condition) (cs : List Condition) → outcomes (And a b cs) N ≡ fold of_and (known true false) (map (λ c. outcomes c N) (a ∷ b ∷ cs))
  outcomes-And a b cs = outcomes-at (Condition-F.And a b cs) _ (rolls-And a b cs) N ∙ ap (fold of_and (known true false)) (each N (a ∷ b ∷ cs))

  pub outcomes-Or : (a b : Condition) (cs : List Condition) → outcomes (Or a b cs) N ≡ fold of_or (known false true) (map (λ c. outcomes c N) (a ∷ b ∷ cs))
  outcomes-Or a b cs = outcomes-at (Condition-F.Or a b cs) _ (rolls-Or a b cs) N ∙ ap (fold of_or (known false true)) (each N (a ∷ b ∷ cs))

  pub outcomes-Exists : (g : ℕ) → outcomes (Exists g) N ≡ known true true
  outcomes-Exists g = outcomes-at (Condition-F.Exists g) _ (rolls-Exists g) N

  pub outcomes-In : (a : Term) (g k : ℕ) → outcomes (In a g k) N ≡ compared (is_nulled N a) true
  outcomes-In a g k = outcomes-at (Condition-F.In a g k) _ (rolls-In a g k) N
