-- What each form of condition over classes is at a row.
use Rattle.std.proofs.Common.{◌≡◌, refl, ap, sym, ◌∙◌, ℕ, ◌&&◌, not, List, [], ◌∷◌, map, fold}
use Rattle.std.specs.List.{list_all}
use Rattle.std.proofs.Math.Bool.{and-true, and_assoc}
use Rattle.values.specs.declared.truth.Truth.{Truth}
use Rattle.values.specs.declared.truth.Truth.TheVariants as be
use Rattle.values.specs.declared.truth.Comparison.{Comparison}
use Rattle.values.specs.declared.truth.Comparison.TheVariants as by
use Rattle.values.specs.Truth.{negation, conjunction, truth_of, is_true, is_null, compare}
use Rattle.query.specs.Meaning.{all_of, any_of}
use Rattle.algebra.specs.declared.condition.Condition.{Condition, fold-roll-Condition}
use Rattle.algebra.specs.declared.condition.Condition.TheVariants.{Compare, IsNull, Not, And, Or, Exists, In, rolls-Compare, rolls-IsNull, rolls-Not, rolls-And, rolls-Or, rolls-Exists, rolls-In}
use Rattle.algebra.specs.declared.condition.Condition.TheOpen.{Condition-F}
use Rattle.algebra.specs.declared.condition.Term.{Term}
use Rattle.algebra.specs.Bags.{Env, Bag}
use Rattle.algebra.specs.Conditions.{Meaning, truth_layer, truth, term_value, is_empty}

truths-map : (W : ℕ → Bag) (r : Env) (cs : List Condition) → map (λ m. m W r) (map truth cs) ≡ map (λ c. truth c W r) cs
truths-map W r [] = refl
truths-map W r (c ∷ cs) = ap (λ ts. truth c W r ∷ ts) (truths-map W r cs)

pub truth-Compare : (c : Comparison) (a b : Term) (W : ℕ → Bag) (r : Env) → truth (Compare c a b) W r ≡ compare c (term_value a r) (term_value b r)
unfolding truth
truth-Compare c a b W r = ap (λ d. truth d W r) (sym (rolls-Compare c a b)) ∙ ap (λ m. m W r) (fold-roll-Condition Meaning truth_layer (Condition-F.Compare c a b))

pub truth-IsNull : (a : Term) (W : ℕ → Bag) (r : Env) → truth (IsNull a) W r ≡ truth_of (is_null (term_value a r))
unfolding truth
truth-IsNull a W r = ap (λ d. truth d W r) (sym (rolls-IsNull a)) ∙ ap (λ m. m W r) (fold-roll-Condition Meaning truth_layer (Condition-F.IsNull a))

pub truth-Not : (c : Condition) (W : ℕ → Bag) (r : Env) → truth (Not c) W r ≡ negation (truth c W r)
unfolding truth
truth-Not c W r = ap (λ d. truth d W r) (sym (rolls-Not c)) ∙ ap (λ m. m W r) (fold-roll-Condition Meaning truth_layer (Condition-F.Not c))

pub truth-And : (a b : Condition) (cs : List Condition) (W : ℕ → Bag) (r : Env) → truth (And a b cs) W r ≡ all_of (map (λ c. truth c W r) (a ∷ b ∷ cs))
unfolding truth
truth-And a b cs W r = ap (λ d. truth d W r) (sym (rolls-And a b cs)) ∙ ap (λ m. m W r) (fold-roll-Condition Meaning truth_layer (Condition-F.And a b cs)) ∙ ap all_of (truths-map W r (a ∷ b ∷ cs))

pub truth-Or : (a b : Condition) (cs : List Condition) (W : ℕ → Bag) (r : Env) → truth (Or a b cs) W r ≡ any_of (map (λ c. truth c W r) (a ∷ b ∷ cs))
unfolding truth
truth-Or a b cs W r = ap (λ d. truth d W r) (sym (rolls-Or a b cs)) ∙ ap (λ m. m W r) (fold-roll-Condition Meaning truth_layer (Condition-F.Or a b cs)) ∙ ap any_of (truths-map W r (a ∷ b ∷ cs))

pub truth-Exists : (g : ℕ) (W : ℕ → Bag) (r : Env) → truth (Exists g) W r ≡ truth_of (not (is_empty (W g r)))
unfolding truth
truth-Exists g W r = ap (λ d. truth d W r) (sym (rolls-Exists g)) ∙ ap (λ m. m W r) (fold-roll-Condition Meaning truth_layer (Condition-F.Exists g))

pub truth-In : (a : Term) (g k : ℕ) (W : ℕ → Bag) (r : Env) → truth (In a g k) W r ≡ any_of (map (λ s. compare by.Equal (term_value a r) (s k)) (W g r))
unfolding truth
truth-In a g k W r = ap (λ d. truth d W r) (sym (rolls-In a g k)) ∙ ap (λ m. m W r) (fold-roll-Condition Meaning truth_layer (Condition-F.In a g k))

-- ---- AND of a list is true where all are

true-and : (a b : Truth) → is_true (conjunction a b) ≡ (is_true a && is_true b)
true-and be.False b = refl
true-and be.Unknown be.False = refl
true-and be.Unknown be.Unknown = refl
true-and be.Unknown be.True = refl
true-and be.True b = refl

true-from : (a : Truth) (ts : List Truth) → is_true (fold conjunction a ts) ≡ (is_true a && list_all is_true ts)
true-from a [] = sym (and-true (is_true a))
true-from a (t ∷ ts) = true-from (conjunction a t) ts ∙ ap (λ b. b && list_all is_true ts) (true-and a t) ∙ and_assoc (is_true a) (is_true t) (list_all is_true ts)

pub true-all : (ts : List Truth) → is_true (all_of ts) ≡ list_all is_true ts
true-all ts = true-from be.True ts

-- ---- and it isn't false where none is

allowed-and : (a b : Truth) → not (is_true (negation (conjunction a b))) ≡ (not (is_true (negation a)) && not (is_true (negation b)))
allowed-and be.False b = refl
allowed-and be.Unknown be.False = refl
allowed-and be.Unknown be.Unknown = refl
allowed-and be.Unknown be.True = refl
allowed-and be.True b = refl

allowed-from : (a : Truth) (ts : List Truth) → not (is_true (negation (fold conjunction a ts))) ≡ (not (is_true (negation a)) && list_all (λ t. not (is_true (negation t))) ts)
allowed-from a [] = sym (and-true (not (is_true (negation a))))
allowed-from a (t ∷ ts) =
    allowed-from (conjunction a t) ts ∙ ap (λ b. b && list_all (λ t. not (is_true (negation t))) ts) (allowed-and a t)
    ∙ and_assoc (not (is_true (negation a))) (not (is_true (negation t))) (list_all (λ t. not (is_true (negation t))) ts)

pub allowed-all : (ts : List Truth) → not (is_true (negation (all_of ts))) ≡ list_all (λ t. not (is_true (negation t))) ts
allowed-all ts = allowed-from be.True ts
