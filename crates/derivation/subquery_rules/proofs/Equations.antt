-- Which columns the AND and the OR of conditions ask for.
use Rattle.std.proofs.Common.{◌≡◌, ap, sym, ◌∙◌, ℕ, Bool, List, ◌∷◌}
use Rattle.std.proofs.lemmas.List.Folds.{list_all-map}
use Rattle.algebra.specs.declared.condition.Condition.{Condition, fold-roll-Condition}
use Rattle.algebra.specs.declared.condition.Condition.TheOpen.{Condition-F}
use Rattle.algebra.specs.declared.condition.Condition.TheVariants.{And, Or, rolls-And, rolls-Or}
use Rattle.algebra.specs.Conditions.{Passes}
use Rattle.subquery_rules.specs.Replacing.{asks_layer, asks, all_ask}

pub asks_and : (class : ℕ) (a b : Condition) (cs : List Condition) (p : ℕ → Bool) → asks class (And a b cs) p ≡ all_ask class (a ∷ b ∷ cs) p
unfolding asks
asks_and class a b cs p =
    ap (λ c. asks class c p) (sym (rolls-And a b cs)) ∙ ap (λ f. f p) (fold-roll-Condition Passes (asks_layer class) (Condition-F.And a b cs)) ∙ list_all-map (λ c. c p) (asks class) (a ∷ b ∷ cs)

pub asks_or : (class : ℕ) (a b : Condition) (cs : List Condition) (p : ℕ → Bool) → asks class (Or a b cs) p ≡ all_ask class (a ∷ b ∷ cs) p
unfolding asks
asks_or class a b cs p =
    ap (λ c. asks class c p) (sym (rolls-Or a b cs)) ∙ ap (λ f. f p) (fold-roll-Condition Passes (asks_layer class) (Condition-F.Or a b cs)) ∙ list_all-map (λ c. c p) (asks class) (a ∷ b ∷ cs)
