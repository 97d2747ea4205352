-- What the AND and the OR of conditions name, and their truth, by their parts; conjuncts name and hold what their condition does.
use Rattle.std.proofs.Common.{◌≡◌, refl, ap, sym, ◌∙◌, ℕ, Bool, true, List, [], ◌∷◌, map}
use Rattle.std.specs.List.{list_all}
use Rattle.std.proofs.lemmas.List.Folds.{list_all-map}
use Rattle.std.proofs.Math.Bool.{and-true}
use Rattle.values.specs.Truth.{negation, is_true}
use Rattle.query.specs.Meaning.{all_of, any_of}
use Rattle.algebra.specs.declared.condition.Condition.{Condition}
use Rattle.algebra.specs.declared.condition.Condition.TheVariants.{Not, And, Or}
use Rattle.algebra.specs.Bags.{Env, Bag}
use Rattle.algebra.specs.Conditions.{truth, holds, all_columns, all_classes}
use Rattle.algebra.specs.ConjunctOrder.{conjuncts}
use Rattle.algebra.specs.Connectives.{never, and_of, or_of}
use Rattle.algebra.proofs.ConditionNames.{columns-IsNull, columns-Not, classes-IsNull, classes-Not}
use Rattle.algebra.proofs.ConjunctLists.{conjuncts-one}
use Rattle.algebra.proofs.Equations.{all_columns_and, all_columns_or, all_classes_and, all_classes_or}
use Rattle.algebra.proofs.Truths.{truth-IsNull, truth-Not, truth-And, truth-Or, true-all}

-- a test that passes an AND, or an OR, as it passes all its parts
module _ (p : Condition → Bool) where
  and-parts : ((a b : Condition) (cs : List Condition) → p (And a b cs) ≡ list_all p (a ∷ b ∷ cs)) → p (Not never) ≡ true → (cs : List Condition) → p (and_of cs) ≡ list_all p cs
  and-parts more none [] = none
  and-parts more none (c ∷ []) = sym (and-true (p c))
  and-parts more none (c ∷ d ∷ cs) = more c d cs

  or-parts : ((a b : Condition) (cs : List Condition) → p (Or a b cs) ≡ list_all p (a ∷ b ∷ cs)) → p never ≡ true → (cs : List Condition) → p (or_of cs) ≡ list_all p cs
  or-parts more none [] = none
  or-parts more none (c ∷ []) = sym (and-true (p c))
  or-parts more none (c ∷ d ∷ cs) = more c d cs

pub columns-and_of : (cs : List Condition) (p : ℕ → Bool) → all_columns (and_of cs) p ≡ list_all (λ c. all_columns c p) cs
columns-and_of cs p = and-parts (λ c. all_columns c p) (λ a b ds. all_columns_and a b ds p) (columns-Not never p ∙ columns-IsNull _ p) cs

pub columns-or_of : (cs : List Condition) (p : ℕ → Bool) → all_columns (or_of cs) p ≡ list_all (λ c. all_columns c p) cs
columns-or_of cs p = or-parts (λ c. all_columns c p) (λ a b ds. all_columns_or a b ds p) (columns-IsNull _ p) cs

pub classes-and_of : (cs : List Condition) (p : ℕ → Bool) → all_classes (and_of cs) p ≡ list_all (λ c. all_classes c p) cs
classes-and_of cs p = and-parts (λ c. all_classes c p) (λ a b ds. all_classes_and a b ds p) (classes-Not never p ∙ classes-IsNull _ p) cs

pub classes-or_of : (cs : List Condition) (p : ℕ → Bool) → all_classes (or_of cs) p ≡ list_all (λ c. all_classes c p) cs
classes-or_of cs p = or-parts (λ c. all_classes c p) (λ a b ds. all_classes_or a b ds p) (classes-IsNull _ p) cs

pub truth-and_of : (cs : List Condition) (W : ℕ → Bag) (r : Env) → truth (and_of cs) W r ≡ all_of (map (λ c. truth c W r) cs)
truth-and_of [] W r = truth-Not never W r ∙ ap negation (truth-IsNull _ W r)
truth-and_of (c ∷ []) W r = refl
truth-and_of (c ∷ d ∷ cs) W r = truth-And c d cs W r

pub truth-or_of : (cs : List Condition) (W : ℕ → Bag) (r : Env) → truth (or_of cs) W r ≡ any_of (map (λ c. truth c W r) cs)
truth-or_of [] W r = truth-IsNull _ W r
truth-or_of (c ∷ []) W r = refl
truth-or_of (c ∷ d ∷ cs) W r = truth-Or c d cs W r

-- ---- the conjuncts of a condition

pub conjuncts-columns : (c : Condition) (p : ℕ → Bool) → list_all (λ d. all_columns d p) (conjuncts (c ∷ [])) ≡ all_columns c p
conjuncts-columns c p = conjuncts-one (λ d. all_columns d p) (λ a b ds. all_columns_and a b ds p) c

pub conjuncts-classes : (c : Condition) (p : ℕ → Bool) → list_all (λ d. all_classes d p) (conjuncts (c ∷ [])) ≡ all_classes c p
conjuncts-classes c p = conjuncts-one (λ d. all_classes d p) (λ a b ds. all_classes_and a b ds p) c

pub conjuncts-hold : (c : Condition) (W : ℕ → Bag) (r : Env) → holds W (conjuncts (c ∷ [])) r ≡ is_true (truth c W r)
conjuncts-hold c W r = conjuncts-one (λ d. is_true (truth d W r))
    (λ a b ds. ap is_true (truth-And a b ds W r) ∙ true-all (map (λ d. truth d W r) (a ∷ b ∷ ds)) ∙ list_all-map is_true (λ d. truth d W r) (a ∷ b ∷ ds)) c
