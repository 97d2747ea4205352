-- What each form of condition asks of a class.
use Rattle.std.proofs.Common.{◌≡◌, ap, sym, ◌∙◌, ℕ, ◌==◌, true, not, List, ◌∷◌}
use Rattle.std.proofs.lemmas.List.Folds.{list_all-map}
use Rattle.values.specs.declared.truth.Comparison.{Comparison}
use Rattle.algebra.specs.declared.condition.Condition.{Condition, roll-Condition, fold-roll-Condition, map-Condition}
use Rattle.algebra.specs.declared.condition.Condition.TheVariants.{Compare, IsNull, Not, And, Or, Exists, In, rolls-Compare, rolls-IsNull, rolls-Not, rolls-And, rolls-Or, rolls-Exists, rolls-In}
use Rattle.algebra.specs.declared.condition.Condition.TheOpen.{Condition-F}
use Rattle.algebra.specs.declared.condition.Term.{Term}
use Rattle.algebra.specs.Conditions.{Passes}
use Rattle.operators.specs.Existence.{all_looked_up, ask_existence, asks_existence, looked_up_layer}

pub asks-at : (x : Condition-F Condition) (c : Condition) (g : ℕ) → roll-Condition x ≡ c → asks_existence g c ≡ looked_up_layer (map-Condition Condition Passes all_looked_up x) (λ h. not (h == g))
unfolding all_looked_up
asks-at x c g is = ap (λ d. all_looked_up d (λ h. not (h == g))) (sym is) ∙ ap (λ f. f (λ h. not (h == g))) (fold-roll-Condition Passes looked_up_layer x)

pub asks-Compare : (op : Comparison) (a b : Term) (g : ℕ) → asks_existence g (Compare op a b) ≡ true
asks-Compare op a b g = asks-at (Condition-F.Compare op a b) _ g (rolls-Compare op a b)

pub asks-IsNull : (a : Term) (g : ℕ) → asks_existence g (IsNull a) ≡ true
asks-IsNull a g = asks-at (Condition-F.IsNull a) _ g (rolls-IsNull a)

pub asks-Not : (c : Condition) (g : ℕ) → asks_existence g (Not c) ≡ asks_existence g c
asks-Not c g = asks-at (Condition-F.Not c) _ g (rolls-Not c)

pub asks-And : (a b : Condition) (cs : List Condition) (g : ℕ) → asks_existence g (And a b cs) ≡ ask_existence (a ∷ b ∷ cs) g
asks-And a b cs g = asks-at (Condition-F.And a b cs) _ g (rolls-And a b cs) ∙ list_all-map (λ c. c (λ h. not (h == g))) all_looked_up (a ∷ b ∷ cs)

pub asks-Or : (a b : Condition) (cs : List Condition) (g : ℕ) → asks_existence g (Or a b cs) ≡ ask_existence (a ∷ b ∷ cs) g
asks-Or a b cs g = asks-at (Condition-F.Or a b cs) _ g (rolls-Or a b cs) ∙ list_all-map (λ c. c (λ h. not (h == g))) all_looked_up (a ∷ b ∷ cs)

pub asks-Exists : (h g : ℕ) → asks_existence g (Exists h) ≡ true
asks-Exists h g = asks-at (Condition-F.Exists h) _ g (rolls-Exists h)

pub asks-In : (a : Term) (h k g : ℕ) → asks_existence g (In a h k) ≡ not (h == g)
asks-In a h k g = asks-at (Condition-F.In a h k) _ g (rolls-In a h k)
