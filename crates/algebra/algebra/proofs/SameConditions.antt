-- What conditions mean goes by the bags of the classes that they name.
use Rattle.std.proofs.Common.{◌≡◌, refl, ap, sym, ◌∙◌, subst, ℕ, Bool, true, false, not, ◌||◌, if◌then◌else◌, List, [], ◌∷◌, ◌++◌, map, fold, flat_map}
use Rattle.std.specs.List.{list_any}
use Rattle.std.proofs.lemmas.Bool.{eq-eqb, or_left, or_right}
use Rattle.values.specs.declared.truth.Truth.{Truth}
use Rattle.values.specs.declared.truth.Truth.TheVariants.{False, Unknown, True}
use Rattle.values.specs.declared.truth.Comparison.TheVariants as by
use Rattle.values.specs.Truth.{negation, disjunction, truth_of, is_true, compare}
use Rattle.query.specs.Meaning.{all_of, any_of}
use Rattle.algebra.specs.declared.condition.Condition.{Condition, roll-Condition, fold-roll-Condition, ind-Condition, map-Condition}
use Rattle.algebra.specs.declared.condition.Condition.TheOpen.{Condition-F}
use Rattle.algebra.specs.Columns.{has}
use Rattle.algebra.specs.Bags.{Env, Bag, SameRows, SameBag}
use Rattle.algebra.specs.Conditions.{Meaning, truth_layer, truth, term_value, is_empty, holds, allows, named_layer, named_classes, classes_in}
use Rattle.algebra.proofs.Lists.{two}
use Rattle.algebra.proofs.Puts.{among-append}
use Rattle.algebra.proofs.Sets.{has-rising}
use Rattle.algebra.proofs.SameBags.{SameTest, any-same}

-- ---- OR over rows

abbrev is_unknown : Truth → Bool
is_unknown True = false
is_unknown Unknown = true
is_unknown False = false

-- OR is true where one is true, and else unknown where one is unknown
abbrev either : Bool → Bool → Truth
either some_true some_unknown = if some_true then True else if some_unknown then Unknown else False

or-either : (a t : Truth) (p q : Bool) → disjunction (disjunction a t) (either p q) ≡ disjunction a (either (is_true t || p) (is_unknown t || q))
or-either True t p q = refl
or-either Unknown True p q = refl
or-either Unknown Unknown true q = refl
or-either Unknown Unknown false true = refl
or-either Unknown Unknown false false = refl
or-either Unknown False p q = refl
or-either False True p q = refl
or-either False Unknown true q = refl
or-either False Unknown false true = refl
or-either False Unknown false false = refl
or-either False False p q = refl

or-rows : (h : Env → Truth) (a : Truth) (xs : List Env) → fold disjunction a (map h xs) ≡ disjunction a (either (list_any (λ s. is_true (h s)) xs) (list_any (λ s. is_unknown (h s)) xs))
or-rows h True [] = refl
or-rows h Unknown [] = refl
or-rows h False [] = refl
or-rows h a (x ∷ xs) = or-rows h (disjunction a (h x)) xs ∙ or-either a (h x) _ _

-- OR over rows goes by how often each row comes
pub any_of-same : (h : Env → Truth) (xs ys : List Env) → SameRows xs ys → any_of (map h xs) ≡ any_of (map h ys)
any_of-same h xs ys same =
    or-rows h False xs ∙ two either (any-same (λ s. is_true (h s)) xs ys same) (any-same (λ s. is_unknown (h s)) xs ys same) ∙ sym (or-rows h False ys)

-- so does whether there is a row
pub is_empty-same : (xs ys : List Env) → SameRows xs ys → is_empty xs ≡ is_empty ys
is_empty-same xs ys same = none xs ∙ ap not (any-same (λ s. true) xs ys same) ∙ sym (none ys)
  where
    none : (xs : List Env) → is_empty xs ≡ not (list_any (λ s. true) xs)
    none [] = refl
    none (x ∷ xs) = refl

-- ---- conditions

-- the classes of a list have the same bags
abbrev pub SameClasses : List ℕ → (ℕ → Bag) → (ℕ → Bag) → Type 0
SameClasses classes V W = (g : ℕ) → has classes g ≡ true → SameBag (V g) (W g)

pub same-left : (gs hs : List ℕ) (V W : ℕ → Bag) → SameClasses (gs ++ hs) V W → SameClasses gs V W
same-left gs hs V W same g in_ = same g (among-append g gs hs ∙ or_left _ _ in_)

pub same-right : (gs hs : List ℕ) (V W : ℕ → Bag) → SameClasses (gs ++ hs) V W → SameClasses hs V W
same-right gs hs V W same g in_ = same g (among-append g gs hs ∙ or_right (has gs g) _ in_)

same-first : (g : ℕ) (V W : ℕ → Bag) → SameClasses (g ∷ []) V W → SameBag (V g) (W g)
same-first g V W same = same g (or_left _ _ (eq-eqb g g refl))

abbrev P : Condition → Type 0
P c = (V W : ℕ → Bag) → SameClasses (named_classes c) V W → (r : Env) → truth c V r ≡ truth c W r

abbrev Part : Type 0
Part = (c : Condition) × P c

abbrev names : List Part → List ℕ
names parts = flat_map (λ c. c) (map named_classes (map (λ p. p.0) parts))

truths : (parts : List Part) (V W : ℕ → Bag) → SameClasses (names parts) V W → (r : Env) → map (λ m. m V r) (map truth (map (λ p. p.0) parts)) ≡ map (λ m. m W r) (map truth (map (λ p. p.0) parts))
truths [] V W same r = refl
truths (p ∷ parts) V W same r =
    two (λ t ts. t ∷ ts) (p.1 V W (same-left (named_classes p.0) (names parts) V W same) r) (truths parts V W (same-right (named_classes p.0) (names parts) V W same) r)

layer : (y : Condition-F Part) (V W : ℕ → Bag) → SameClasses (named_layer (map-Condition Condition (List ℕ) named_classes (map-Condition Part Condition (λ p. p.0) y))) V W → (r : Env)
    → truth_layer (map-Condition Condition Meaning truth (map-Condition Part Condition (λ p. p.0) y)) V r ≡ truth_layer (map-Condition Condition Meaning truth (map-Condition Part Condition (λ p. p.0) y)) W r
layer (Condition-F.Compare op a b) V W same r = refl
layer (Condition-F.IsNull a) V W same r = refl
layer (Condition-F.Not p) V W same r = ap negation (p.1 V W same r)
layer (Condition-F.And a b ps) V W same r = ap all_of (truths (a ∷ b ∷ ps) V W same r)
layer (Condition-F.Or a b ps) V W same r = ap any_of (truths (a ∷ b ∷ ps) V W same r)
layer (Condition-F.Exists g) V W same r = ap (λ b. truth_of (not b)) (is_empty-same (V g r) (W g r) (same-first g V W same r))
layer (Condition-F.In a g k) V W same r = any_of-same (λ s. compare by.Equal (term_value a r) (s k)) (V g r) (W g r) (same-first g V W same r)

step : (y : Condition-F Part) → P (roll-Condition (map-Condition Part Condition (λ p. p.0) y))
unfolding truth named_classes
step y V W same r =
    let z : Condition-F Condition = map-Condition Part Condition (λ p. p.0) y in
    ap (λ m. m V r) (fold-roll-Condition Meaning truth_layer z)
    ∙ layer y V W (subst (λ gs. SameClasses gs V W) (fold-roll-Condition (List ℕ) named_layer z) same) r
    ∙ sym (ap (λ m. m W r) (fold-roll-Condition Meaning truth_layer z))

pub truth-same : (c : Condition) → P c
truth-same = ind-Condition P (λ x y is. subst (λ z. P (roll-Condition z)) is (step y))

-- conditions pass the same rows where the classes that they name have the same bags
pub holds-among : (C : List Condition) (V W : ℕ → Bag) → SameClasses (flat_map named_classes C) V W → SameTest (holds V C) (holds W C)
holds-among [] V W same r = refl
holds-among (c ∷ C) V W same r =
    rw (truth-same c V W (same-left (named_classes c) (flat_map named_classes C) V W same) r, holds-among C V W (same-right (named_classes c) (flat_map named_classes C) V W same) r) refl

pub allows-among : (C : List Condition) (V W : ℕ → Bag) → SameClasses (flat_map named_classes C) V W → SameTest (allows V C) (allows W C)
allows-among [] V W same r = refl
allows-among (c ∷ C) V W same r =
    rw (truth-same c V W (same-left (named_classes c) (flat_map named_classes C) V W same) r, allows-among C V W (same-right (named_classes c) (flat_map named_classes C) V W same) r) refl

pub holds-same : (C : List Condition) (V W : ℕ → Bag) → SameClasses (classes_in C) V W → SameTest (holds V C) (holds W C)
holds-same C V W same = holds-among C V W (λ g in_. same g (has-rising g (flat_map named_classes C) ∙ in_))
