-- Conditions that pin a key find one match at most.
use Rattle.std.proofs.Common.{◌≡◌, refl, ap, sym, ◌∙◌, inl, inr, subst, ℕ, ◌==◌, Bool, true, false, ◌&&◌, List, [], ◌∷◌}
use Rattle.std.specs.List.{list_any}
use Rattle.std.specs.Ordering.{is_eq}
use Rattle.std.specs.declared.cmp.Ordering.{Ordering}
use Rattle.std.specs.declared.cmp.Ordering.TheVariants as cmp
use Rattle.std.proofs.lemmas.Bool.{and_parts, and_from, or_cases, or_left, or_right, eq-eqb, eqb-true, not-true}
use Rattle.values.specs.declared.value.Value.{Value}
use Rattle.values.specs.declared.value.Value.TheVariants as value
use Rattle.values.specs.declared.truth.Comparison.{Comparison}
use Rattle.values.specs.declared.truth.Comparison.TheVariants as by
use Rattle.values.specs.Truth.{truth_of, is_true, is_null, compare, admits}
use Rattle.values.specs.Order.{order, same}
use Rattle.algebra.specs.declared.condition.Term.{Term}
use Rattle.algebra.specs.declared.condition.Term.TheVariants as term
use Rattle.algebra.specs.declared.condition.Condition.{Condition, roll-Condition, fold-roll-Condition, map-Condition, out-Condition, roll-out-Condition}
use Rattle.algebra.specs.declared.condition.Condition.TheOpen.{Condition-F}
use Rattle.algebra.specs.declared.condition.Condition.TheVariants.{Compare, rolls-Compare}
use Rattle.algebra.specs.Columns.{has, is_subset}
use Rattle.algebra.specs.Bags.{Env, Bag, lay, same_on}
use Rattle.algebra.specs.Conditions.{truth, holds, term_value}
use Rattle.algebra.proofs.MentionedColumns.{each_has}
use Rattle.algebra.proofs.Truths.{truth-Compare}
use Rattle.algebra.proofs.UniqueRows.{same_on-refl}
use Rattle.values.proofs.Orders.{same_equal}
use Rattle.laws.specs.Keys.{has_null, IsWeakKey, IsSingle}
use Rattle.laws.proofs.KeyCounts.{single_from}
use Rattle.laws.proofs.Overlays.{in_subset}
use Rattle.props.specs.Given.{is_other, is_column, is_equality, equates, pins_layer, pins, are_pinned}

-- ---- what is equal

-- whether a comparison is true of equal values alone
of-equality : (op : Comparison) → is_equality op ≡ true → op ≡ by.Equal
of-equality by.Equal is = refl
of-equality by.NotEqual is = cc
of-equality by.Less is = cc
of-equality by.LessOrEqual is = cc
of-equality by.Greater is = cc
of-equality by.GreaterOrEqual is = cc

admitted : (o : Ordering) → is_true (truth_of (admits by.Equal o)) ≡ true → o ≡ cmp.Equal
admitted cmp.Less is = cc
admitted cmp.Equal is = refl
admitted cmp.Greater is = cc

equal-values : (v w : Value) → is_true (compare by.Equal v w) ≡ true → (v ≡ w) × (is_null v ≡ false)
equal-values value.Null w is = cc
equal-values (value.Int m) value.Null is = cc
equal-values (value.Int m) (value.Int n) is = (same_equal (value.Int m) (value.Int n) (ap is_eq (admitted (order (value.Int m) (value.Int n)) is)), refl)
equal-values (value.Int m) (value.Text t) is = (same_equal (value.Int m) (value.Text t) (ap is_eq (admitted (order (value.Int m) (value.Text t)) is)), refl)
equal-values (value.Text s) value.Null is = cc
equal-values (value.Text s) (value.Int n) is = (same_equal (value.Text s) (value.Int n) (ap is_eq (admitted (order (value.Text s) (value.Int n)) is)), refl)
equal-values (value.Text s) (value.Text t) is = (same_equal (value.Text s) (value.Text t) (ap is_eq (admitted (order (value.Text s) (value.Text t)) is)), refl)

-- the other way round
values-equal : (v w : Value) → is_true (compare by.Equal v w) ≡ true → (w ≡ v) × (is_null w ≡ false)
values-equal v w is = let both = equal-values v w is in (sym both.0, ap is_null (sym both.0) ∙ both.1)

-- ---- one condition

pins-at : (x : Condition-F Condition) (c : Condition) → roll-Condition x ≡ c → (B : List ℕ) (k : ℕ) → pins c B k ≡ pins_layer (map-Condition Condition (List ℕ → ℕ → Bool) pins x) B k
unfolding pins
pins-at x c is B k = ap (λ d. pins d B k) (sym is) ∙ ap (λ f. f B k) (fold-roll-Condition (List ℕ → ℕ → Bool) pins_layer x)

pub pins-Compare : (op : Comparison) (a b : Term) (B : List ℕ) (k : ℕ) → pins (Compare op a b) B k ≡ equates B k op a b
pins-Compare op a b = pins-at (Condition-F.Compare op a b) _ (rolls-Compare op a b)

-- nothing else pins
pub pins-else : (c : Condition) → ((op : Comparison) (a b : Term) → c ≡ Compare op a b → ⊥) → (B : List ℕ) (k : ℕ) → pins c B k ≡ false
pins-else c other B k = by (out-Condition c) (roll-out-Condition c)
  where
    by : (x : Condition-F Condition) → roll-Condition x ≡ c → pins c B k ≡ false
    by (Condition-F.Compare op a b) is = absurd (other op a b (sym is ∙ rolls-Compare op a b))
    by (Condition-F.IsNull a) is = pins-at (Condition-F.IsNull a) c is B k
    by (Condition-F.Not d) is = pins-at (Condition-F.Not d) c is B k
    by (Condition-F.And a b cs) is = pins-at (Condition-F.And a b cs) c is B k
    by (Condition-F.Or a b cs) is = pins-at (Condition-F.Or a b cs) c is B k
    by (Condition-F.Exists g) is = pins-at (Condition-F.Exists g) c is B k
    by (Condition-F.In a g j) is = pins-at (Condition-F.In a g j) c is B k

module _ (rows : ℕ → Bag) (B : List ℕ) (k : ℕ) (in_ : has B k ≡ true) where
  -- what a condition says of the column, where it passes with two rows
  abbrev Pinned : Condition → Type 0
  Pinned c = (r s t : Env) → is_true (truth c rows (lay (has B) s r)) ≡ true → is_true (truth c rows (lay (has B) t r)) ≡ true → (s k ≡ t k) × (is_null (s k) ≡ false)

  other-value : (a : Term) → is_other B a ≡ true → (r s : Env) → term_value a (lay (has B) s r) ≡ term_value a r
  other-value (term.Column c) out r s = rw (not-true _ out) refl
  other-value (term.Literal v) out r s = refl

  own-value : (a : Term) → is_column k a ≡ true → (r s : Env) → term_value a (lay (has B) s r) ≡ s k
  own-value (term.Column c) is r s = ap (lay (has B) s r) (eqb-true c k is) ∙ (rw in_ refl)
  own-value (term.Literal v) is r s = cc

  first-pins : (a b : Term) → is_column k a ≡ true → is_other B b ≡ true → Pinned (Compare by.Equal a b)
  first-pins a b own other r s t at_s at_t =
      let one = equal-values (s k) (term_value b r) (at s at_s) in
      let two = equal-values (t k) (term_value b r) (at t at_t) in
      (one.0 ∙ sym two.0, one.1)
    where
      at : (s : Env) → is_true (truth (Compare by.Equal a b) rows (lay (has B) s r)) ≡ true → is_true (compare by.Equal (s k) (term_value b r)) ≡ true
      at s is = rw (← own-value a own r s, ← other-value b other r s, ← truth-Compare by.Equal a b rows (lay (has B) s r)) is

  second-pins : (a b : Term) → is_column k b ≡ true → is_other B a ≡ true → Pinned (Compare by.Equal a b)
  second-pins a b own other r s t at_s at_t =
      let one = values-equal (term_value a r) (s k) (at s at_s) in
      let two = values-equal (term_value a r) (t k) (at t at_t) in
      (one.0 ∙ sym two.0, one.1)
    where
      at : (s : Env) → is_true (truth (Compare by.Equal a b) rows (lay (has B) s r)) ≡ true → is_true (compare by.Equal (term_value a r) (s k)) ≡ true
      at s is = rw (← own-value b own r s, ← other-value a other r s, ← truth-Compare by.Equal a b rows (lay (has B) s r)) is

  pinned-at : (x : Condition-F Condition) (c : Condition) → roll-Condition x ≡ c → pins c B k ≡ true → Pinned c
  pinned-at (Condition-F.Compare op a b) c is pinned =
      let both = and_parts (is_equality op) _ (sym (pins-at (Condition-F.Compare op a b) c is B k) ∙ pinned) in
      subst Pinned (sym (rolls-Compare op a b) ∙ is) (subst (λ o. Pinned (Compare o a b)) (sym (of-equality op both.0)) (elim (or_cases (is_column k a && is_other B b) (is_column k b && is_other B a) both.1) [
        | inl first ↦ let parts = and_parts (is_column k a) (is_other B b) first in first-pins a b parts.0 parts.1
        | inr second ↦ let parts = and_parts (is_column k b) (is_other B a) second in second-pins a b parts.0 parts.1
      ]))
  pinned-at (Condition-F.IsNull a) c is pinned = absurd (cc (sym (pins-at (Condition-F.IsNull a) c is B k) ∙ pinned))
  pinned-at (Condition-F.Not d) c is pinned = absurd (cc (sym (pins-at (Condition-F.Not d) c is B k) ∙ pinned))
  pinned-at (Condition-F.And a b cs) c is pinned = absurd (cc (sym (pins-at (Condition-F.And a b cs) c is B k) ∙ pinned))
  pinned-at (Condition-F.Or a b cs) c is pinned = absurd (cc (sym (pins-at (Condition-F.Or a b cs) c is B k) ∙ pinned))
  pinned-at (Condition-F.Exists g) c is pinned = absurd (cc (sym (pins-at (Condition-F.Exists g) c is B k) ∙ pinned))
  pinned-at (Condition-F.In a g j) c is pinned = absurd (cc (sym (pins-at (Condition-F.In a g j) c is B k) ∙ pinned))

  -- some condition of a list pins the column
  list-pins : (C : List Condition) → list_any (λ c. pins c B k) C ≡ true → (r s t : Env) → holds rows C (lay (has B) s r) ≡ true → holds rows C (lay (has B) t r) ≡ true → (s k ≡ t k) × (is_null (s k) ≡ false)
  list-pins [] none r s t at_s at_t = cc
  list-pins (c ∷ C) some r s t at_s at_t =
      let here_s = and_parts _ _ at_s in
      let here_t = and_parts _ _ at_t in
      elim (or_cases (pins c B k) (list_any (λ c. pins c B k) C) some) [
        | inl here ↦ pinned-at (out-Condition c) c (roll-out-Condition c) here r s t here_s.0 here_t.0
        | inr later ↦ list-pins C later r s t here_s.1 here_t.1
      ]

-- ---- a key

pub pinned-single : (rows : ℕ → Bag) (B L : List ℕ) (C : List Condition) (b : Bag) → is_subset L B ≡ true → are_pinned B C L ≡ true → IsWeakKey L b → IsSingle (holds rows C) (has B) b
pinned-single rows B L C b within pinned weak = single_from L (holds rows C) (has B) b weak (λ r s t at_s at_t. agree L (λ k in_. each k in_ r s t at_s at_t)) (λ r s at_s. full L (λ k in_. each k in_ r s s at_s at_s))
  where
    each : (k : ℕ) → has L k ≡ true → (r s t : Env) → holds rows C (lay (has B) s r) ≡ true → holds rows C (lay (has B) t r) ≡ true → (s k ≡ t k) × (is_null (s k) ≡ false)
    each k in_ r s t at_s at_t = list-pins rows B k (in_subset L B within k in_) C (each_has (λ k. list_any (λ c. pins c B k) C) L pinned k in_) r s t at_s at_t

    agree : {s t : Env} (N : List ℕ) → ((k : ℕ) → has N k ≡ true → (s k ≡ t k) × (is_null (s k) ≡ false)) → same_on N s t ≡ true
    agree [] same_ = refl
    agree {s} {t} (k ∷ N) same_ =
        and_from _ _ (ap (same (s k)) (sym (same_ k (or_left (k == k) (has N k) (eq-eqb k k refl))).0) ∙ (and_parts (same (s k) (s k)) true (same_on-refl (k ∷ []) s)).0)
        (agree N (λ j in_. same_ j (or_right (k == j) (has N j) in_)))

    full : {s : Env} (N : List ℕ) → ((k : ℕ) → has N k ≡ true → (s k ≡ s k) × (is_null (s k) ≡ false)) → has_null N s ≡ false
    full [] same_ = refl
    full (k ∷ N) same_ = rw ((same_ k (or_left (k == k) (has N k) (eq-eqb k k refl))).1) (full N (λ j in_. same_ j (or_right (k == j) (has N j) in_)))
