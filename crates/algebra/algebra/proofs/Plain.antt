-- What conditions without subqueries mean depends on no class.
use Rattle.std.proofs.Common.{◌≡◌, refl, ap, sym, ◌∙◌, subst, ℕ, true, false, List, [], ◌∷◌, ◌++◌, map}
use Rattle.std.specs.List.{list_all}
use Rattle.std.proofs.lemmas.Bool.{and_parts, and_from}
use Rattle.values.specs.Truth.{negation}
use Rattle.query.specs.Meaning.{all_of, any_of}
use Rattle.algebra.specs.declared.condition.Condition.{Condition, roll-Condition, fold-roll-Condition, ind-Condition, map-Condition}
use Rattle.algebra.specs.declared.condition.Condition.TheOpen.{Condition-F}
use Rattle.algebra.specs.Bags.{Env, Bag}
use Rattle.algebra.specs.Conditions.{Meaning, Passes, truth_layer, truth, classes_layer, all_classes, holds, allows}
use Rattle.algebra.specs.Expressions.{is_plain}
use Rattle.algebra.proofs.Lists.{cons-same}

abbrev pub NoClass : Condition → Type 0
NoClass c = all_classes c (λ g. false) ≡ true

abbrev P : Condition → Type 0
P c = NoClass c → (V W : ℕ → Bag) (r : Env) → truth c V r ≡ truth c W r

abbrev Part : Type 0
Part = (c : Condition) × P c

truths : (parts : List Part) → list_all (λ c. c (λ g. false)) (map all_classes (map (λ p. p.0) parts)) ≡ true → (V W : ℕ → Bag) (r : Env)
    → map (λ m. m V r) (map truth (map (λ p. p.0) parts)) ≡ map (λ m. m W r) (map truth (map (λ p. p.0) parts))
truths [] none V W r = refl
truths (p ∷ parts) none V W r =
    let both : (all_classes p.0 (λ g. false) ≡ true) × (list_all (λ c. c (λ g. false)) (map all_classes (map (λ p. p.0) parts)) ≡ true) = and_parts _ _ none in
    cons-same (p.1 both.0 V W r) (truths parts both.1 V W r)

layer : (y : Condition-F Part) → classes_layer (map-Condition Condition Passes all_classes (map-Condition Part Condition (λ p. p.0) y)) (λ g. false) ≡ true → (V W : ℕ → Bag) (r : Env)
    → truth_layer (map-Condition Condition Meaning truth (map-Condition Part Condition (λ p. p.0) y)) V r ≡ truth_layer (map-Condition Condition Meaning truth (map-Condition Part Condition (λ p. p.0) y)) W r
layer (Condition-F.Compare op a b) none V W r = refl
layer (Condition-F.IsNull a) none V W r = refl
layer (Condition-F.Not p) none V W r = ap negation (p.1 none V W r)
layer (Condition-F.And a b ps) none V W r = ap all_of (truths (a ∷ b ∷ ps) none V W r)
layer (Condition-F.Or a b ps) none V W r = ap any_of (truths (a ∷ b ∷ ps) none V W r)
layer (Condition-F.Exists g) none V W r = cc
layer (Condition-F.In a g k) none V W r = cc

step : (y : Condition-F Part) → P (roll-Condition (map-Condition Part Condition (λ p. p.0) y))
unfolding truth all_classes
step y none V W r =
    ap (λ m. m V r) (fold-roll-Condition Meaning truth_layer (map-Condition Part Condition (λ p. p.0) y))
    ∙ layer y (sym (ap (λ f. f (λ g. false)) (fold-roll-Condition Passes classes_layer (map-Condition Part Condition (λ p. p.0) y))) ∙ none) V W r
    ∙ sym (ap (λ m. m W r) (fold-roll-Condition Meaning truth_layer (map-Condition Part Condition (λ p. p.0) y)))

plain_truth : (c : Condition) → P c
plain_truth = ind-Condition P (λ x y is. subst (λ z. P (roll-Condition z)) is (step y))

pub plain_holds : (C : List Condition) → is_plain C ≡ true → (V W : ℕ → Bag) (r : Env) → holds V C r ≡ holds W C r
plain_holds [] none V W r = refl
plain_holds (c ∷ C) none V W r =
    let both : (all_classes c (λ g. false) ≡ true) × (is_plain C ≡ true) = and_parts _ _ none in
    rw (plain_truth c both.0 V W r, plain_holds C both.1 V W r) refl

pub plain_allows : (C : List Condition) → is_plain C ≡ true → (V W : ℕ → Bag) (r : Env) → allows V C r ≡ allows W C r
plain_allows [] none V W r = refl
plain_allows (c ∷ C) none V W r =
    let both : (all_classes c (λ g. false) ≡ true) × (is_plain C ≡ true) = and_parts _ _ none in
    rw (plain_truth c both.0 V W r, plain_allows C both.1 V W r) refl

-- of conditions without subqueries each part is such
pub plain_parts : (C D : List Condition) → is_plain (C ++ D) ≡ true → (is_plain C ≡ true) × (is_plain D ≡ true)
plain_parts [] D none = (refl, none)
plain_parts (c ∷ C) D none =
    let both : (all_classes c (λ g. false) ≡ true) × (is_plain (C ++ D) ≡ true) = and_parts _ _ none in
    let later = plain_parts C D both.1 in
    (and_from _ _ both.0 later.0, later.1)
