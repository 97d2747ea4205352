-- Conditions keep their truth at a row where a class has other rows there, among which the same is found in the columns that they ask for.
use Rattle.std.proofs.Common.{◌≡◌, refl, ap, sym, ◌∙◌, subst, ℕ, Bool, true, false, not, ◌&&◌, ◌||◌, ◌==◌, List, [], ◌∷◌, map}
use Rattle.std.specs.List.{list_all, list_any}
use Rattle.std.proofs.lemmas.Bool.{and_parts, eqb-true}
use Rattle.values.specs.declared.truth.Comparison.TheVariants as by_
use Rattle.values.specs.declared.truth.Truth.{Truth}
use Rattle.values.specs.declared.truth.Truth.TheVariants as be
use Rattle.values.specs.declared.value.Value.{Value}
use Rattle.values.specs.Truth.{is_true, negation, disjunction, truth_of, compare}
use Rattle.query.specs.Meaning.{all_of, any_of}
use Rattle.algebra.specs.declared.condition.Condition.{Condition, roll-Condition, fold-roll-Condition, ind-Condition, map-Condition}
use Rattle.algebra.specs.declared.condition.Condition.TheOpen.{Condition-F}
use Rattle.algebra.specs.Bags.{Env, Test, Bag}
use Rattle.algebra.specs.Columns.{ColumnSet}
use Rattle.algebra.specs.Conditions.{Meaning, Passes, truth_layer, truth, holds, is_empty, term_value}
use Rattle.algebra.proofs.Lists.{two}
use Rattle.laws.specs.Rewriting.{ReadsOnly}
use Rattle.subquery_rules.specs.Replacing.{asks_layer, asks, all_ask}
use Rattle.subquery_rules.proofs.FoundAlike.{FoundAlike}
use Rattle.subquery_rules.proofs.SubqueryTruths.{isnt_false, any_of-passes, true-either, isnt_false-either, has-row}

-- a truth is told by whether it is true and whether it isn't false
told : (a b : Truth) → is_true a ≡ is_true b → isnt_false a ≡ isnt_false b → a ≡ b
told be.True be.True t f = refl
told be.True be.Unknown t f = cc
told be.True be.False t f = cc
told be.Unknown be.True t f = cc
told be.Unknown be.Unknown t f = refl
told be.Unknown be.False t f = cc
told be.False be.True t f = cc
told be.False be.Unknown t f = cc
told be.False be.False t f = refl

module _ (class : ℕ) (M : ColumnSet) (V W : ℕ → Bag) (r : Env) (others : (g : ℕ) → (g == class) ≡ false → V g r ≡ W g r) (found : FoundAlike M (V class r) (W class r)) where
  -- ---- what is found among the rows of a class

  found-in : (g : ℕ) (t : Test) → ((g == class) ≡ true → ReadsOnly M t) → list_any t (V g r) ≡ list_any t (W g r)
  found-in g t reads = by (g == class) refl
    where
      by : (b : Bool) → (g == class) ≡ b → list_any t (V g r) ≡ list_any t (W g r)
      by true is = subst (λ h. list_any t (V h r) ≡ list_any t (W h r)) (sym (eqb-true g class is)) (found t (reads is))
      by false is = ap (list_any t) (others g is)

  some-row : (g : ℕ) → not (is_empty (V g r)) ≡ not (is_empty (W g r))
  some-row g = has-row (V g r) ∙ found-in g (λ s. true) (λ is a b same. refl) ∙ sym (has-row (W g r))

  -- OR over values of a column
  any-value : (g k : ℕ) → ((g == class) ≡ true → M k ≡ true) → (h : Value → Truth) → any_of (map (λ s. h (s k)) (V g r)) ≡ any_of (map (λ s. h (s k)) (W g r))
  any-value g k in_ h = told _ _ (passes is_true refl true-either) (passes isnt_false refl isnt_false-either)
    where
      passes : (u : Truth → Bool) → u be.False ≡ false → ((a b : Truth) → u (disjunction a b) ≡ (u a || u b)) → u (any_of (map (λ s. h (s k)) (V g r))) ≡ u (any_of (map (λ s. h (s k)) (W g r)))
      passes u none either =
          any_of-passes u none either (λ s. h (s k)) (V g r)
          ∙ found-in g (λ s. u (h (s k))) (λ is a b same. ap (λ v. u (h v)) (same k (in_ is)))
          ∙ sym (any_of-passes u none either (λ s. h (s k)) (W g r))

  -- ---- conditions

  abbrev P : Condition → Type 0
  P c = asks class c M ≡ true → truth c V r ≡ truth c W r

  abbrev Part : Type 0
  Part = (c : Condition) × P c

  abbrev whole : Condition-F Part → Condition-F Condition
  whole y = map-Condition Part Condition (λ q. q.0) y

  parts : (ps : List Part) → list_all (λ c. c M) (map (asks class) (map (λ q. q.0) ps)) ≡ true → map (λ m. m V r) (map truth (map (λ q. q.0) ps)) ≡ map (λ m. m W r) (map truth (map (λ q. q.0) ps))
  parts [] ask = refl
  parts (q ∷ ps) ask = let both = and_parts _ _ ask in two (λ t ts. t ∷ ts) (q.1 both.0) (parts ps both.1)

  layer : (y : Condition-F Part) → asks_layer class (map-Condition Condition Passes (asks class) (whole y)) M ≡ true
      → truth_layer (map-Condition Condition Meaning truth (whole y)) V r ≡ truth_layer (map-Condition Condition Meaning truth (whole y)) W r
  layer (Condition-F.Compare op a b) ask = refl
  layer (Condition-F.IsNull a) ask = refl
  layer (Condition-F.Not q) ask = ap negation (q.1 ask)
  layer (Condition-F.And q p ps) ask = ap all_of (parts (q ∷ p ∷ ps) ask)
  layer (Condition-F.Or q p ps) ask = ap any_of (parts (q ∷ p ∷ ps) ask)
  layer (Condition-F.Exists g) ask = ap truth_of (some-row g)
  layer (Condition-F.In a g k) ask = any-value g k (λ is. ap (λ b. not b || M k) (sym is) ∙ ask) (compare by_.Equal (term_value a r))

  step : (y : Condition-F Part) → P (roll-Condition (whole y))
  unfolding truth asks
  step y ask =
      ap (λ m. m V r) (fold-roll-Condition Meaning truth_layer (whole y))
      ∙ layer y (subst (λ (f : Passes). f M ≡ true) (fold-roll-Condition Passes (asks_layer class) (whole y)) ask)
      ∙ sym (ap (λ m. m W r) (fold-roll-Condition Meaning truth_layer (whole y)))

  truth-asked : (c : Condition) → P c
  truth-asked = ind-Condition P (λ x y is. subst (λ z. P (roll-Condition z)) is (step y))

  pub holds-asked : (C : List Condition) → all_ask class C M ≡ true → holds V C r ≡ holds W C r
  holds-asked [] ask = refl
  holds-asked (c ∷ C) ask = let both = and_parts _ _ ask in two (λ t b. is_true t && b) (truth-asked c both.0) (holds-asked C both.1)

-- ---- all columns pass

module _ (class : ℕ) where
  abbrev AsksSome : Condition → Type 0
  AsksSome c = asks class c (λ k. true) ≡ true

  abbrev SomePart : Type 0
  SomePart = (c : Condition) × AsksSome c

  some-parts : (ps : List SomePart) → list_all (λ c. c (λ k. true)) (map (asks class) (map (λ q. q.0) ps)) ≡ true
  some-parts [] = refl
  some-parts (q ∷ ps) = rw (q.1, some-parts ps) refl

  some-layer : (y : Condition-F SomePart) → asks_layer class (map-Condition Condition Passes (asks class) (map-Condition SomePart Condition (λ q. q.0) y)) (λ k. true) ≡ true
  some-layer (Condition-F.Compare op a b) = refl
  some-layer (Condition-F.IsNull a) = refl
  some-layer (Condition-F.Not q) = q.1
  some-layer (Condition-F.And q p ps) = some-parts (q ∷ p ∷ ps)
  some-layer (Condition-F.Or q p ps) = some-parts (q ∷ p ∷ ps)
  some-layer (Condition-F.Exists g) = refl
  some-layer (Condition-F.In a g k) = by (not (g == class))
    where
      by : (b : Bool) → (b || true) ≡ true
      by true = refl
      by false = refl

  some-step : (y : Condition-F SomePart) → AsksSome (roll-Condition (map-Condition SomePart Condition (λ q. q.0) y))
  unfolding asks
  some-step y = ap (λ (f : Passes). f (λ k. true)) (fold-roll-Condition Passes (asks_layer class) (map-Condition SomePart Condition (λ q. q.0) y)) ∙ some-layer y

  asks-some : (c : Condition) → AsksSome c
  asks-some = ind-Condition AsksSome (λ x y is. subst (λ z. AsksSome (roll-Condition z)) is (some-step y))

  pub all_ask-some : (C : List Condition) → all_ask class C (λ k. true) ≡ true
  all_ask-some [] = refl
  all_ask-some (c ∷ C) = rw (asks-some c, all_ask-some C) refl
