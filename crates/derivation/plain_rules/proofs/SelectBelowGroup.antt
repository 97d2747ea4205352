-- Predicate pushdown below groups: its laws.
use Rattle.std.proofs.Common.{◌≡◌, refl, ap, sym, ◌∙◌, subst, ℕ, Bool, true, false, ◌&&◌, List, [], ◌∷◌, map, Ok, Result}
use Rattle.std.specs.List.{list_all}
use Rattle.std.proofs.lemmas.Bool.{and_parts}
use Rattle.std.proofs.lemmas.List.Folds.{list_all-map}
use Rattle.values.specs.Faults.{◌>>=◌}
use Rattle.values.specs.Truth.{negation, truth_of, is_true, is_null, compare}
use Rattle.query.specs.Meaning.{all_of, any_of}
use Rattle.algebra.specs.declared.condition.Condition.{Condition, roll-Condition, fold-roll-Condition, ind-Condition, map-Condition}
use Rattle.algebra.specs.declared.condition.Condition.TheOpen.{Condition-F}
use Rattle.algebra.specs.declared.condition.Term.{Term}
use Rattle.algebra.specs.declared.condition.Term.TheVariants as term
use Rattle.algebra.specs.declared.expr.Aggregation.{Aggregation}
use Rattle.algebra.specs.declared.expr.Expr.TheVariants.{Select, Group}
use Rattle.algebra.specs.Columns.{ColumnSet, has, rising, is_subset}
use Rattle.algebra.specs.Bags.{Env, Bag, SameBag}
use Rattle.algebra.specs.Conditions.{Meaning, Passes, truth_layer, truth, term_value, term_passes, classes_layer, all_classes, columns_layer, all_columns, holds}
use Rattle.algebra.specs.ConjunctOrder.{conjuncts}
use Rattle.algebra.specs.ConjunctParts.{part, rest, has_no_class}
use Rattle.algebra.specs.Expressions.{Classes, aggregate_columns, aggregation_formed, are_different, is_query_column, with_aggregates}
use Rattle.algebra.proofs.ConjunctLists.{conjuncts-all}
use Rattle.algebra.proofs.Equations.{all_columns_and, all_classes_and}
use Rattle.algebra.proofs.Lists.{two}
use Rattle.algebra.proofs.MentionedColumns.{each_has}
use Rattle.algebra.proofs.SameBags.{same_bag-trans, select-same}
use Rattle.algebra.proofs.Truths.{truth-And, true-all}
use Rattle.laws.specs.Rewriting.{IsBoth, ReadsOnly}
use Rattle.laws.proofs.Ignored.{part-passes}
use Rattle.props.specs.Knowledge.{Knowledge, with_rows}
use Rattle.rules.specs.declared.pattern.Operator.TheVariants as operator
use Rattle.rules.specs.declared.pattern.Operators.TheVariants.{Only}
use Rattle.rules.specs.declared.shape.Shape.{Shape}
use Rattle.rules.specs.declared.shape.Shape.TheVariants as shape
use Rattle.plain_rules.specs.SelectBelowGroup as spec
use Rattle.rules.specs.Conjuncts.{wanted_some}
use Rattle.rules.specs.Soundness.{IsSound}
use Rattle.rules.specs.Patterns.{KeepsTo}
use Rattle.rules.specs.Formed.{IsFormed}
use Rattle.rules.specs.Stability.{IsStable}
use Rattle.rules.specs.Shapes.{selected}
use Rattle.rules.proofs.Conditions.{split-holds, some-given}
use Rattle.rules.proofs.MatchedLines.{TwoAreSound, given, two-sound}
use Rattle.rules.proofs.PatternedLines.{TwoKeepTo, two-keep}
use Rattle.rules.proofs.ShapeMeanings.{class-is, select-is, group-is, selected-same}
use Rattle.rules.proofs.FormedLines.{Site, Are, TwoAreFormed, two-formed, given-is, select-are, first-founded, class-stands, select-stands, selected-stands, group-stands, part-are, rest-are}
use Rattle.rules.proofs.StableLines.{TwoAreStable, two-stable}
use Rattle.plain_rules.proofs.GroupedRows.{selects_go_below_group, aggregates-leave}

-- ---- what conditions read that have no subquery and name some columns alone

module _ (M : ColumnSet) where
  abbrev AgreeOn : Env → Env → Type 0
  AgreeOn r s = (c : ℕ) → M c ≡ true → r c ≡ s c

  term-reads : (a : Term) → term_passes M a ≡ true → (r s : Env) → AgreeOn r s → term_value a r ≡ term_value a s
  term-reads (term.Column k) named r s agree = agree k (and_parts (M k) true named).0
  term-reads (term.Literal v) named r s agree = refl

  abbrev P : Condition → Type 0
  P c = has_no_class c ≡ true → all_columns c M ≡ true → (W : ℕ → Bag) (r s : Env) → AgreeOn r s → truth c W r ≡ truth c W s

  abbrev Part : Type 0
  Part = (c : Condition) × P c

  abbrev whole : Condition-F Part → Condition-F Condition
  whole y = map-Condition Part Condition (λ p. p.0) y

  parts-read : (parts : List Part) → list_all (λ c. c (λ g. false)) (map all_classes (map (λ p. p.0) parts)) ≡ true → list_all (λ c. c M) (map all_columns (map (λ p. p.0) parts)) ≡ true
      → (W : ℕ → Bag) (r s : Env) → AgreeOn r s → map (λ m. m W r) (map truth (map (λ p. p.0) parts)) ≡ map (λ m. m W s) (map truth (map (λ p. p.0) parts))
  parts-read [] none named W r s agree = refl
  parts-read (p ∷ parts) none named W r s agree =
      let first = and_parts _ _ none in
      let second = and_parts _ _ named in
      two (λ t ts. t ∷ ts) (p.1 first.0 second.0 W r s agree) (parts-read parts first.1 second.1 W r s agree)

  layer : (y : Condition-F Part) → classes_layer (map-Condition Condition Passes all_classes (whole y)) (λ g. false) ≡ true → columns_layer (map-Condition Condition Passes all_columns (whole y)) M ≡ true
      → (W : ℕ → Bag) (r s : Env) → AgreeOn r s → truth_layer (map-Condition Condition Meaning truth (whole y)) W r ≡ truth_layer (map-Condition Condition Meaning truth (whole y)) W s
  layer (Condition-F.Compare op a b) none named W r s agree = let both = and_parts _ _ named in two (compare op) (term-reads a both.0 r s agree) (term-reads b both.1 r s agree)
  layer (Condition-F.IsNull a) none named W r s agree = ap (λ v. truth_of (is_null v)) (term-reads a named r s agree)
  layer (Condition-F.Not p) none named W r s agree = ap negation (p.1 none named W r s agree)
  layer (Condition-F.And p q ps) none named W r s agree = ap all_of (parts-read (p ∷ q ∷ ps) none named W r s agree)
  layer (Condition-F.Or p q ps) none named W r s agree = ap any_of (parts-read (p ∷ q ∷ ps) none named W r s agree)
  layer (Condition-F.Exists g) none named W r s agree = cc
  layer (Condition-F.In a g k) none named W r s agree = cc

  step : (y : Condition-F Part) → P (roll-Condition (whole y))
  unfolding truth all_classes all_columns
  step y none named W r s agree =
      ap (λ m. m W r) (fold-roll-Condition Meaning truth_layer (whole y))
      ∙ layer y (sym (ap (λ f. f (λ g. false)) (fold-roll-Condition Passes classes_layer (whole y))) ∙ none) (sym (ap (λ f. f M) (fold-roll-Condition Passes columns_layer (whole y))) ∙ named) W r s agree
      ∙ sym (ap (λ m. m W s) (fold-roll-Condition Meaning truth_layer (whole y)))

  truth-reads : (c : Condition) → P c
  truth-reads = ind-Condition P (λ x y is. subst (λ z. P (roll-Condition z)) is (step y))

-- ---- the conjuncts of keys

-- conjuncts hold where their conditions do
conjuncts-hold : (W : ℕ → Bag) (C : List Condition) (r : Env) → holds W (conjuncts C) r ≡ holds W C r
conjuncts-hold W C r =
    conjuncts-all (λ d. is_true (truth d W r)) (λ a b ds. ap is_true (truth-And a b ds W r) ∙ true-all (map (λ d. truth d W r) (a ∷ b ∷ ds)) ∙ list_all-map is_true (λ d. truth d W r) (a ∷ b ∷ ds)) C

module _ (K : List ℕ) (W : ℕ → Bag) where
  conditions-read : (C : List Condition) → list_all (spec.is_of_keys K) C ≡ true → ReadsOnly (has K) (holds W C)
  conditions-read [] all r s agree = refl
  conditions-read (c ∷ C) all r s agree =
      let parts = and_parts (spec.is_of_keys K c) (list_all (spec.is_of_keys K) C) all in
      let of = and_parts (has_no_class c) (all_columns c (has K)) parts.0 in
      two (λ a b. a && b) (ap is_true (truth-reads (has K) c of.0 of.1 W r s agree)) (conditions-read C parts.1 r s agree)

  -- they read keys alone
  keys-read : (C : List Condition) → ReadsOnly (has K) (holds W (spec.of_keys K C))
  keys-read C r s agree =
      conjuncts-hold W (part (spec.is_of_keys K) C) r
      ∙ conditions-read (part (spec.is_of_keys K) C) (part-passes (spec.is_of_keys K) C) r s agree
      ∙ sym (conjuncts-hold W (part (spec.is_of_keys K) C) s)

  -- a list holds where they and the others do
  keys-split : (C : List Condition) → IsBoth (holds W C) (holds W (spec.of_keys K C)) (holds W (spec.of_others K C))
  keys-split C r =
      split-holds W (spec.is_of_keys K) C r
      ∙ two (λ a b. a && b) (sym (conjuncts-hold W (part (spec.is_of_keys K) C) r)) (sym (conjuncts-hold W (rest (spec.is_of_keys K) C) r))

-- without keys nothing is given
keyless : (P : List Condition) (f : List Condition → Shape) (s : Shape) → (wanted_some P >>= λ P. spec.if_keyed [] (f P)) ≡ Ok s → ⊥
keyless [] f s is = cc
keyless (c ∷ P) f s is = cc

-- ---- it is sound

pushed-sound : TwoAreSound spec.pushed_below
pushed-sound K W (Select C y) (Group (k ∷ L) G x) s stands below is =
    let parts = and_parts (is_subset (k ∷ L) (K.columns x) && are_different (aggregate_columns G)) _ below.formed in
    let within = (and_parts (is_subset (k ∷ L) (K.columns x)) _ parts.0).0 in
    given K W _ _ s (some-given P _ s is) (same_bag-trans _ _ _
    (select-same _ _ _ _ (λ r. refl) (below.rows y [] refl)) (same_bag-trans _ _ _
    (selects_go_below_group k L (with_aggregates G) (holds W.rows C) (holds W.rows P) (holds W.rows R) (W.rows x) (keys-split (k ∷ L) W.rows C) (keys-read (k ∷ L) W.rows C)
    (λ M r c in_. aggregates-leave W.own (K.columns x) G parts.1 M r c (each_has (has (K.columns x)) (k ∷ L) within c in_)))
    (selected-same V R _ _ (group-is V (k ∷ L) G _ _ (select-is V P _ _ (class-is V x))))))
  where
    V : Classes
    V = with_rows K W.rows

    P : List Condition
    P = spec.of_keys (k ∷ L) C

    R : List Condition
    R = spec.of_others (k ∷ L) C
pushed-sound K W (Select C y) (Group [] G x) s stands below is = absurd (keyless (spec.of_keys [] C) (λ P. selected (spec.of_others [] C) (shape.Group [] G (shape.Select P (shape.Class x)))) s is)
pushed-sound K W x y s stands below is = cc

pub select_below_group_sound : IsSound spec.select_below_group
select_below_group_sound = two-sound spec.pushed_below pushed-sound

-- ---- its pattern

pushed-keeps : TwoKeepTo (Only operator.Select) (Only operator.Group) spec.pushed_below
pushed-keeps K (Select C y) (Group L G x) other = cc
pushed-keeps K x y other = refl

pub select_below_group_keeps : KeepsTo spec.pattern spec.select_below_group
select_below_group_keeps = two-keep (Only operator.Select) (Only operator.Group) spec.pushed_below pushed-keeps

-- ---- what it gives is well formed

-- conjuncts of conditions that may stand may stand
conjuncts-are : (S : Site) (C : List Condition) → Are S C → Are S (conjuncts C)
conjuncts-are S C are = record {
  known = conjuncts-all (λ d. all_classes d S.founds) (λ a b ds. all_classes_and a b ds S.founds) C ∙ are.known;
  named = conjuncts-all (λ d. all_columns d (is_query_column S.instances S.own)) (λ a b ds. all_columns_and a b ds (is_query_column S.instances S.own)) C ∙ are.named;
}

pushed-formed : TwoAreFormed spec.pushed_below
pushed-formed S (Select C y) (Group (k ∷ L) G x) s stands next same is =
    let p = spec.is_of_keys (k ∷ L) in
    let are = select-are S C y stands in
    given-is S _ s _ _ (some-given (spec.of_keys (k ∷ L) C) _ s is) (sym (same y [] refl)) (selected-stands S (spec.of_others (k ∷ L) C) _ _
    (group-stands S (k ∷ L) G _ _ (select-stands S (spec.of_keys (k ∷ L) C) _ _ (class-stands S x (first-founded S x true next.known)) (conjuncts-are S (part p C) (part-are S p C are))) next.formed)
    (conjuncts-are S (rest p C) (rest-are S p C are)))
pushed-formed S (Select C y) (Group [] G x) s stands next same is = absurd (keyless (spec.of_keys [] C) (λ P. selected (spec.of_others [] C) (shape.Group [] G (shape.Select P (shape.Class x)))) s is)
pushed-formed S x y s stands next same is = cc

pub select_below_group_formed : IsFormed spec.select_below_group
select_below_group_formed = two-formed spec.pushed_below pushed-formed

-- ---- it depends on the classes that its lines name

pushed-stable : TwoAreStable spec.pushed_below
pushed-stable p K L agree (Select C y) (Group M G x) known next = refl
pushed-stable p K L agree x y known next = refl

pub select_below_group_stable : IsStable spec.select_below_group
select_below_group_stable = two-stable spec.pushed_below pushed-stable
