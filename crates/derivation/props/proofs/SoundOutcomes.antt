-- Each truth that a condition has where columns are Null is among its outcomes.
use Rattle.std.proofs.Common.{◌≡◌, refl, ap, sym, ◌∙◌, inl, inr, subst, ℕ, Bool, true, false, not, ◌&&◌, ◌||◌, if◌then◌else◌, List, [], ◌∷◌, map, fold}
use Rattle.std.proofs.lemmas.Bool.{and_from, or_left, or_right, or_cases}
use Rattle.values.specs.declared.value.Value.{Value}
use Rattle.values.specs.declared.value.Value.TheVariants as value
use Rattle.values.specs.declared.truth.Comparison.{Comparison}
use Rattle.values.specs.declared.truth.Comparison.TheVariants as by
use Rattle.values.specs.declared.truth.Truth.{Truth}
use Rattle.values.specs.declared.truth.Truth.TheVariants.{False, Unknown, True}
use Rattle.values.specs.Truth.{negation, conjunction, disjunction, truth_of, is_true, is_null, compare}
use Rattle.query.specs.Meaning.{any_of}
use Rattle.algebra.specs.declared.condition.Term.{Term}
use Rattle.algebra.specs.declared.condition.Term.TheVariants as term
use Rattle.algebra.specs.declared.condition.Condition.{Condition, roll-Condition, ind-Condition, map-Condition}
use Rattle.algebra.specs.declared.condition.Condition.TheOpen.{Condition-F}
use Rattle.algebra.specs.declared.condition.Condition.TheVariants.{rolls-Compare, rolls-IsNull, rolls-Not, rolls-And, rolls-Or, rolls-Exists, rolls-In}
use Rattle.algebra.specs.Columns.{ColumnSet}
use Rattle.algebra.specs.Bags.{Env, Bag}
use Rattle.algebra.specs.Conditions.{truth, holds, term_value, is_empty}
use Rattle.algebra.proofs.Truths.{truth-Compare, truth-IsNull, truth-Not, truth-And, truth-Or, truth-Exists, truth-In}
use Rattle.props.specs.declared.outcomes.Truths.{Truths}
use Rattle.props.specs.Outcomes.{outcomes, allows, is_some, is_nulled, null_outcomes, known, compared, of_not, of_and, of_or, never_true, IsNullIn, OutcomesAreSound, NeverTrueIsSound}
use Rattle.props.proofs.OutcomeForms.{outcomes-Compare, outcomes-IsNull, outcomes-Not, outcomes-And, outcomes-Or, outcomes-Exists, outcomes-In}

-- ---- the tables

some-of : (A : Truths) (a : Truth) → allows A a ≡ true → is_some A ≡ true
some-of A True is = or_left (A.can_be_true || A.can_be_false) _ (or_left A.can_be_true _ is)
some-of A False is = or_left (A.can_be_true || A.can_be_false) _ (or_right A.can_be_true _ is)
some-of A Unknown is = or_right (A.can_be_true || A.can_be_false) _ is

not-in : (A : Truths) (a : Truth) → allows A a ≡ true → allows (of_not A) (negation a) ≡ true
not-in A True is = is
not-in A False is = is
not-in A Unknown is = is

and-in : (A B : Truths) (a b : Truth) → allows A a ≡ true → allows B b ≡ true → allows (of_and A B) (conjunction a b) ≡ true
and-in A B False b is other = or_left (A.can_be_false && is_some B) _ (and_from _ _ is (some-of B b other))
and-in A B Unknown False is other = or_right (A.can_be_false && is_some B) _ (and_from _ _ (some-of A Unknown is) other)
and-in A B Unknown Unknown is other = or_left (A.can_be_unknown && (B.can_be_true || B.can_be_unknown)) _ (and_from _ _ is (or_right B.can_be_true _ other))
and-in A B Unknown True is other = or_left (A.can_be_unknown && (B.can_be_true || B.can_be_unknown)) _ (and_from _ _ is (or_left B.can_be_true _ other))
and-in A B True False is other = or_right (A.can_be_false && is_some B) _ (and_from _ _ (some-of A True is) other)
and-in A B True Unknown is other = or_right (A.can_be_unknown && (B.can_be_true || B.can_be_unknown)) _ (and_from _ _ is other)
and-in A B True True is other = and_from _ _ is other

or-in : (A B : Truths) (a b : Truth) → allows A a ≡ true → allows B b ≡ true → allows (of_or A B) (disjunction a b) ≡ true
or-in A B True b is other = or_left (A.can_be_true && is_some B) _ (and_from _ _ is (some-of B b other))
or-in A B Unknown True is other = or_right (A.can_be_true && is_some B) _ (and_from _ _ (some-of A Unknown is) other)
or-in A B Unknown Unknown is other = or_left (A.can_be_unknown && (B.can_be_false || B.can_be_unknown)) _ (and_from _ _ is (or_right B.can_be_false _ other))
or-in A B Unknown False is other = or_left (A.can_be_unknown && (B.can_be_false || B.can_be_unknown)) _ (and_from _ _ is (or_left B.can_be_false _ other))
or-in A B False True is other = or_right (A.can_be_true && is_some B) _ (and_from _ _ (some-of A False is) other)
or-in A B False Unknown is other = or_right (A.can_be_unknown && (B.can_be_false || B.can_be_unknown)) _ (and_from _ _ is other)
or-in A B False False is other = and_from _ _ is other

either-in : (A : Truths) (b : Bool) → A.can_be_true ≡ true → A.can_be_false ≡ true → allows A (truth_of b) ≡ true
either-in A true can can_not = can
either-in A false can can_not = can_not

all-in : (f : Bool) (t : Truth) → allows (compared false f) t ≡ true
all-in f True = refl
all-in f False = refl
all-in f Unknown = refl

-- ---- conditions

module _ (N : ColumnSet) (rows : ℕ → Bag) (r : Env) (nulls : IsNullIn N r) where
  nulled-is : (a : Term) → is_nulled N a ≡ true → is_null (term_value a r) ≡ true
  nulled-is (term.Column c) is = ap is_null (nulls c is)
  nulled-is (term.Literal v) is = is

  unknown-left : (op : Comparison) (v w : Value) → is_null v ≡ true → compare op v w ≡ Unknown
  unknown-left op value.Null w is = refl
  unknown-left op (value.Int n) w is = cc
  unknown-left op (value.Text t) w is = cc

  unknown-right : (op : Comparison) (v w : Value) → is_null w ≡ true → compare op v w ≡ Unknown
  unknown-right op value.Null w is = refl
  unknown-right op (value.Int n) value.Null is = refl
  unknown-right op (value.Text t) value.Null is = refl
  unknown-right op v (value.Int n) is = cc
  unknown-right op v (value.Text t) is = cc

  compare-in : (op : Comparison) (a b : Term) (n : Bool) → (is_nulled N a || is_nulled N b) ≡ n → allows (compared n false) (compare op (term_value a r) (term_value b r)) ≡ true
  compare-in op a b true is =
      let unknown : compare op (term_value a r) (term_value b r) ≡ Unknown = elim (or_cases (is_nulled N a) (is_nulled N b) is) [
        | inl first ↦ unknown-left op _ _ (nulled-is a first)
        | inr second ↦ unknown-right op _ _ (nulled-is b second)
      ] in ap (allows (compared true false)) unknown
  compare-in op a b false is = all-in false _

  null-in : (a : Term) → allows (null_outcomes N a) (truth_of (is_null (term_value a r))) ≡ true
  null-in (term.Column c) = at (N c) (is_null (r c)) (λ is. ap is_null (nulls c is))
    where
      at : (n b : Bool) → (n ≡ true → b ≡ true) → allows (if n then known true false else known true true) (truth_of b) ≡ true
      at true true h = refl
      at true false h = cc (h refl)
      at false b h = either-in (known true true) b refl refl
  null-in (term.Literal v) = at (is_null v)
    where
      at : (b : Bool) → allows (if b then known true false else known false true) (truth_of b) ≡ true
      at true = refl
      at false = refl

  -- nothing is found to be equal to Null
  none-in : (v : Value) → is_null v ≡ true → (L : List Env) (k : ℕ) (a : Truth) → allows (compared true true) a ≡ true → allows (compared true true) (fold disjunction a (map (λ s. compare by.Equal v (s k)) L)) ≡ true
  none-in v is [] k a in_ = in_
  none-in v is (s ∷ L) k a in_ = none-in v is L k (disjunction a (compare by.Equal v (s k))) (ap (λ t. allows (compared true true) (disjunction a t)) (unknown-left by.Equal v (s k) is) ∙ at a in_)
    where
      at : (a : Truth) → allows (compared true true) a ≡ true → allows (compared true true) (disjunction a Unknown) ≡ true
      at True h = cc
      at False h = refl
      at Unknown h = refl

  among-in : (a : Term) (L : List Env) (k : ℕ) (n : Bool) → is_nulled N a ≡ n → allows (compared n true) (any_of (map (λ s. compare by.Equal (term_value a r) (s k)) L)) ≡ true
  among-in a L k true is = none-in (term_value a r) (nulled-is a is) L k False refl
  among-in a L k false is = all-in true _

  abbrev P : Condition → Type 0
  P c = allows (outcomes c N) (truth c rows r) ≡ true

  abbrev Part : Type 0
  Part = (c : Condition) × P c

  abbrev wholes : List Part → List Condition
  wholes ps = map (λ p. p.0) ps

  ands-in : (ps : List Part) (A : Truths) (a : Truth) → allows A a ≡ true → allows (fold of_and A (map (λ c. outcomes c N) (wholes ps))) (fold conjunction a (map (λ c. truth c rows r) (wholes ps))) ≡ true
  ands-in [] A a in_ = in_
  ands-in (p ∷ ps) A a in_ = ands-in ps (of_and A (outcomes p.0 N)) (conjunction a (truth p.0 rows r)) (and-in A (outcomes p.0 N) a (truth p.0 rows r) in_ p.1)

  ors-in : (ps : List Part) (A : Truths) (a : Truth) → allows A a ≡ true → allows (fold of_or A (map (λ c. outcomes c N) (wholes ps))) (fold disjunction a (map (λ c. truth c rows r) (wholes ps))) ≡ true
  ors-in [] A a in_ = in_
  ors-in (p ∷ ps) A a in_ = ors-in ps (of_or A (outcomes p.0 N)) (disjunction a (truth p.0 rows r)) (or-in A (outcomes p.0 N) a (truth p.0 rows r) in_ p.1)

  -- by what the outcomes and the truth of a condition are
  from : (c : Condition) (A : Truths) (t : Truth) → outcomes c N ≡ A → truth c rows r ≡ t → allows A t ≡ true → P c
  from c A t is is_t in_ = ap (λ B. allows B (truth c rows r)) is ∙ ap (allows A) is_t ∙ in_

  layer : (y : Condition-F Part) → P (roll-Condition (map-Condition Part Condition (λ p. p.0) y))
  layer (Condition-F.Compare op a b) = subst P (sym (rolls-Compare op a b)) (from _ _ _ (outcomes-Compare N op a b) (truth-Compare op a b rows r) (compare-in op a b _ refl))
  layer (Condition-F.IsNull a) = subst P (sym (rolls-IsNull a)) (from _ _ _ (outcomes-IsNull N a) (truth-IsNull a rows r) (null-in a))
  layer (Condition-F.Not p) = subst P (sym (rolls-Not p.0)) (from _ _ _ (outcomes-Not N p.0) (truth-Not p.0 rows r) (not-in (outcomes p.0 N) _ p.1))
  layer (Condition-F.And p q ps) =
      subst P (sym (rolls-And p.0 q.0 (wholes ps))) (from _ _ _ (outcomes-And N p.0 q.0 (wholes ps)) (truth-And p.0 q.0 (wholes ps) rows r) (ands-in (p ∷ q ∷ ps) (known true false) True refl))
  layer (Condition-F.Or p q ps) =
      subst P (sym (rolls-Or p.0 q.0 (wholes ps))) (from _ _ _ (outcomes-Or N p.0 q.0 (wholes ps)) (truth-Or p.0 q.0 (wholes ps) rows r) (ors-in (p ∷ q ∷ ps) (known false true) False refl))
  layer (Condition-F.Exists g) = subst P (sym (rolls-Exists g)) (from _ _ _ (outcomes-Exists N g) (truth-Exists g rows r) (either-in (known true true) (not (is_empty (rows g r))) refl refl))
  layer (Condition-F.In a g k) = subst P (sym (rolls-In a g k)) (from _ _ _ (outcomes-In N a g k) (truth-In a g k rows r) (among-in a (rows g r) k _ refl))

  sound-at : (c : Condition) → P c
  sound-at = ind-Condition P (λ x y is. subst (λ z. P (roll-Condition z)) is (layer y))

  never-holds : (C : List Condition) → never_true C N ≡ true → holds rows C r ≡ false
  never-holds [] never = cc
  never-holds (c ∷ C) never = elim (or_cases (not (outcomes c N).can_be_true) (never_true C N) never) [
    | inl here ↦ at (outcomes c N) (truth c rows r) (sound-at c) here
    | inr later ↦ ap (λ b. is_true (truth c rows r) && b) (never-holds C later) ∙ last (is_true (truth c rows r))
  ]
    where
      last : (b : Bool) → (b && false) ≡ false
      last true = refl
      last false = refl

      at : (A : Truths) (t : Truth) → allows A t ≡ true → not A.can_be_true ≡ true → (is_true t && holds rows C r) ≡ false
      at A True is none = absurd (cc (sym is ∙ refl, none))
      at A False is none = refl
      at A Unknown is none = refl

pub outcomes_are_sound : OutcomesAreSound
outcomes_are_sound c N rows r nulls = sound-at N rows r nulls c

pub never_true_is_sound : NeverTrueIsSound
never_true_is_sound C N rows r nulls never = never-holds N rows r nulls C never
