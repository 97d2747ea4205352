-- What conditions are at a row goes by the columns that they mention.
use Rattle.std.proofs.Common.{◌≡◌, refl, ap, sym, ◌∙◌, inl, inr, subst, ℕ, ◌==◌, false, not, ◌||◌, ◌&&◌, List, [], ◌∷◌, ◌++◌, map}
use Rattle.std.specs.List.{list_any}
use Rattle.std.proofs.lemmas.Bool.{or_left, or_right, eq-eqb, and_from, cases_Bool}
use Rattle.std.proofs.lemmas.List.Folds.{list_any-append}
use mathlib.Core.List.{map-map}
use Rattle.values.specs.declared.truth.Comparison.TheVariants as by
use Rattle.values.specs.Truth.{negation, truth_of, is_null, compare}
use Rattle.query.specs.Meaning.{all_of, any_of}
use Rattle.algebra.specs.declared.condition.Condition.{Condition, roll-Condition, fold-roll-Condition, ind-Condition, map-Condition}
use Rattle.algebra.specs.declared.condition.Condition.TheOpen.{Condition-F}
use Rattle.algebra.specs.declared.condition.Term.{Term}
use Rattle.algebra.specs.declared.condition.Term.TheVariants as term
use Rattle.algebra.specs.Columns.{ColumnSet, has}
use Rattle.algebra.specs.Bags.{Env, Test, Bag, lay}
use Rattle.algebra.specs.Conditions.{Meaning, Mentions, truth_layer, truth, term_value, term_columns, is_empty, holds, allows, mentions_layer, mentions}
use Rattle.algebra.specs.Expressions.{Classes, mentioned}
use Rattle.algebra.proofs.Lists.{two}
use Rattle.laws.specs.Fitting.{SameIn, Fits, AreFitting, ConditionsReadMentions}
use Rattle.laws.proofs.Overlays.{by_rows}

-- ---- what is read of terms and of subqueries

term-same : (a : Term) (r s : Env) → SameIn (has (term_columns a)) r s → term_value a r ≡ term_value a s
term-same (term.Column k) r s on = on k (or_left (k == k) false (eq-eqb k k refl))
term-same (term.Literal v) r s on = refl

empty-map : (g k : Env → Env) (L : List Env) → is_empty (map g L) ≡ is_empty (map k L)
empty-map g k [] = refl
empty-map g k (t ∷ L) = refl

-- the values of a column of rows that fit, where the environments read the same in it or the rows have it
values-same : (K F : ColumnSet) (x : Bag) → Fits K F x → (k : ℕ) (r s : Env) → SameIn F r s → (K k ≡ false → r k ≡ s k) → map (λ t. t k) (x r) ≡ map (λ t. t k) (x s)
values-same K F x fits k r s on lacks =
    sym (by_rows K F x fits r s on (map (λ t. t k)) (map (λ t. t k)) (λ L.
    map-map (λ t. t k) (λ t. lay K t s) L ∙ (λ i. map (λ t. same t i) L) ∙ sym (map-map (λ t. t k) (λ t. lay K t r) L)))
  where
    same : (t : Env) → lay K t s k ≡ lay K t r k
    same t = elim (cases_Bool (K k)) [ inl is ↦ rw is refl | inr isnt ↦ rw isnt (sym (lacks isnt)) ]

-- ---- conditions

module _ (W : Classes) (fits : AreFitting W) where
  abbrev P : Condition → Type 0
  P c = (r s : Env) → SameIn (mentions c W.columns W.free) r s → truth c W.rows r ≡ truth c W.rows s

  abbrev Part : Type 0
  Part = (c : Condition) × P c

  abbrev whole : Condition-F Part → Condition-F Condition
  whole y = map-Condition Part Condition (λ p. p.0) y

  abbrev reads : List Part → ColumnSet
  reads parts k = list_any (λ d. d W.columns W.free k) (map mentions (map (λ p. p.0) parts))

  truths : (parts : List Part) (r s : Env) → SameIn (reads parts) r s → map (λ m. m W.rows r) (map truth (map (λ p. p.0) parts)) ≡ map (λ m. m W.rows s) (map truth (map (λ p. p.0) parts))
  truths [] r s on = refl
  truths (p ∷ parts) r s on =
      two (λ t ts. t ∷ ts) (p.1 r s (λ k in_. on k (or_left _ _ in_))) (truths parts r s (λ k in_. on k (or_right (mentions p.0 W.columns W.free k) _ in_)))

  layer : (y : Condition-F Part) (r s : Env) → SameIn (mentions_layer (map-Condition Condition Mentions mentions (whole y)) W.columns W.free) r s
      → truth_layer (map-Condition Condition Meaning truth (whole y)) W.rows r ≡ truth_layer (map-Condition Condition Meaning truth (whole y)) W.rows s
  layer (Condition-F.Compare op a b) r s on =
      two (compare op) (term-same a r s (λ k in_. on k (or_left _ _ in_))) (term-same b r s (λ k in_. on k (or_right (has (term_columns a) k) _ in_)))
  layer (Condition-F.IsNull a) r s on = ap (λ v. truth_of (is_null v)) (term-same a r s on)
  layer (Condition-F.Not p) r s on = ap negation (p.1 r s on)
  layer (Condition-F.And p q ps) r s on = ap all_of (truths (p ∷ q ∷ ps) r s on)
  layer (Condition-F.Or p q ps) r s on = ap any_of (truths (p ∷ q ∷ ps) r s on)
  layer (Condition-F.Exists g) r s on =
      ap (λ b. truth_of (not b)) (sym (by_rows (has (W.columns g)) (W.free g) (W.rows g) (fits g) r s on is_empty is_empty (empty-map _ _)))
  layer (Condition-F.In a g k) r s on =
      let value : term_value a r ≡ term_value a s = term-same a r s (λ j in_. on j (or_left _ _ (or_left _ _ in_))) in
      let values = values-same (has (W.columns g)) (W.free g) (W.rows g) (fits g) k r s (λ j in_. on j (or_left _ _ (or_right (has (term_columns a) j) _ in_)))
      (λ lacks. on k (or_right (has (term_columns a) k || W.free g k) _ (and_from _ _ (eq-eqb k k refl) (ap not lacks)))) in
      ap any_of (sym (map-map (compare by.Equal (term_value a r)) (λ t. t k) (W.rows g r))
      ∙ two (λ v vs. map (compare by.Equal v) vs) value values
      ∙ map-map (compare by.Equal (term_value a s)) (λ t. t k) (W.rows g s))

  step : (y : Condition-F Part) → P (roll-Condition (whole y))
  unfolding truth mentions
  step y r s on =
      ap (λ m. m W.rows r) (fold-roll-Condition Meaning truth_layer (whole y))
      ∙ layer y r s (subst (λ (m : Mentions). SameIn (m W.columns W.free) r s) (fold-roll-Condition Mentions mentions_layer (whole y)) on)
      ∙ sym (ap (λ m. m W.rows s) (fold-roll-Condition Meaning truth_layer (whole y)))

  truth-reads : (c : Condition) → P c
  truth-reads = ind-Condition P (λ x y is. subst (λ z. P (roll-Condition z)) is (step y))

  -- ---- tests of rows

  -- a test is the same at rows that read the same in the columns
  abbrev pub Reads : ColumnSet → Test → Type 0
  Reads M p = (r s : Env) → SameIn M r s → p r ≡ p s

  pub holds-reads : (C : List Condition) → Reads (mentioned W.columns W.free C) (holds W.rows C)
  holds-reads [] r s on = refl
  holds-reads (c ∷ C) r s on =
      rw (truth-reads c r s (λ k in_. on k (or_left _ _ in_)), holds-reads C r s (λ k in_. on k (or_right (mentions c W.columns W.free k) _ in_))) refl

  allows-reads : (C : List Condition) → Reads (mentioned W.columns W.free C) (allows W.rows C)
  allows-reads [] r s on = refl
  allows-reads (c ∷ C) r s on =
      rw (truth-reads c r s (λ k in_. on k (or_left _ _ in_)), allows-reads C r s (λ k in_. on k (or_right (mentions c W.columns W.free k) _ in_))) refl

  -- the test of an Anti
  pub unsure-reads : (S M : List Condition) → Reads (mentioned W.columns W.free (S ++ M)) (λ r. holds W.rows S r && allows W.rows M r)
  unsure-reads S M r s on = two (λ u v. u && v)
      (holds-reads S r s (λ k in_. on k (either k ∙ or_left _ _ in_)))
      (allows-reads M r s (λ k in_. on k (either k ∙ or_right (mentioned W.columns W.free S k) _ in_)))
    where
      either : (k : ℕ) → mentioned W.columns W.free (S ++ M) k ≡ (mentioned W.columns W.free S k || mentioned W.columns W.free M k)
      either k = list_any-append (λ c. mentions c W.columns W.free k) S M

pub conditions_read : ConditionsReadMentions
conditions_read W fits c r s on = truth-reads W fits c r s on
