-- The facts that lines give hold of their classes.
use Rattle.std.proofs.Common.{◌≡◌, refl, ap, sym, ◌∙◌, subst, ℕ, ◌+◌, ◌≤◌, ◌==◌, Bool, true, false, not, ◌&&◌, ◌||◌, if◌then◌else◌, List, [], ◌∷◌, ◌++◌, arith}
use Rattle.std.specs.Cmp.{both_ways}
use Rattle.std.specs.List.{list_all}
use Rattle.std.proofs.lemmas.Bool.{and_parts, or_parts, or_left, or_right, eq-eqb}
use Rattle.values.specs.Truth.{is_null}
use Rattle.values.specs.Order.{same}
use Rattle.algebra.specs.Columns.{ColumnSet, has, is_subset, is_same_set}
use Rattle.algebra.specs.Bags.{Env, Test, Bag, SameBag, total, lay, same_on, join, left_join, keep}
use Rattle.std.proofs.lemmas.List.Folds.{list_all-append, list_any-append}
use Rattle.std.proofs.Math.Nat.{le_trans}
use Rattle.algebra.proofs.BagSums.{total-zero, total-plus}
use Rattle.algebra.proofs.Lists.{any_not}
use Rattle.algebra.proofs.UniqueRows.{same_on-reads}
use Rattle.algebra.proofs.MentionedColumns.{each_has, all_has}
use Rattle.laws.specs.Fitting.{Fits}
use Rattle.laws.specs.Keys.{count, has_null, HasNoNull, IsWeakKey, IsStrongKey, IsSingle}
use Rattle.laws.specs.Rewriting.{Ignores, AreApart}
use Rattle.laws.proofs.DistinctRows.{count_fewer}
use Rattle.laws.proofs.JoinSums.{total_join, total_le}
use Rattle.laws.proofs.KeyCounts as count
use Rattle.laws.proofs.Overlays.{in_subset}
use Rattle.laws.proofs.Rewrites.{joins_commute}
use Rattle.props.specs.declared.fact.Fact.{Fact}
use Rattle.props.specs.declared.fact.Fact.TheVariants.{NotNull, WeakKey, StrongKey}
use Rattle.props.specs.Facts.{FactHolds, fact_columns}

pub le_zero : {m n : ℕ} → m ≤ n → n ≡ 0 → m ≡ 0
le_zero h l = omega arith

-- ---- bags with the same rows, and with fewer

pub same-holds : (x y : Bag) → SameBag x y → (f : Fact) → FactHolds x f → FactHolds y f
same-holds x y alike (NotNull c) holds = λ e. sym (alike e (λ r. if is_null (r c) then 1 else 0)) ∙ holds e
same-holds x y alike (WeakKey L) holds = λ e r full. subst (λ n. n ≤ 1) (alike e (λ s. if same_on L r s then 1 else 0)) (holds e r full)
same-holds x y alike (StrongKey L) holds = λ e r. subst (λ n. n ≤ 1) (alike e (λ s. if same_on L r s then 1 else 0)) (holds e r)

pub fewer-holds : (x y : Bag) → ((q : Test) (e : Env) → count q (y e) ≤ count q (x e)) → (f : Fact) → FactHolds x f → FactHolds y f
fewer-holds x y fewer (NotNull c) holds = λ e. le_zero (fewer (λ r. is_null (r c)) e) (holds e)
fewer-holds x y fewer (WeakKey L) holds = λ e r full. le_trans (fewer (same_on L r) e) (holds e r full)
fewer-holds x y fewer (StrongKey L) holds = λ e r. le_trans (fewer (same_on L r) e) (holds e r)

-- rows projected to columns of which the fact speaks
pub keep-holds : (L : List ℕ) (x : Bag) (f : Fact) → is_subset (fact_columns f) L ≡ true → FactHolds x f → FactHolds (keep (has L) x) f
keep-holds L x (NotNull c) within holds = λ e.
    let there : has L c ≡ true = (and_parts (has L c) true within).0 in
    count.count_map (λ r. is_null (r c)) (λ r. lay (has L) r e) (x e) ∙ count.count_same _ _ (λ r. rw there refl) (x e) ∙ holds e
keep-holds L x (WeakKey N) within holds = λ e r full.
    subst (λ n. n ≤ 1) (sym (count.count_map (same_on N r) (λ s. lay (has L) s e) (x e) ∙ count.count_same _ _ (λ s. count.agree_within_set N (has L) (in_subset N L within) r s e) (x e))) (holds e r full)
keep-holds L x (StrongKey N) within holds = λ e r.
    subst (λ n. n ≤ 1) (sym (count.count_map (same_on N r) (λ s. lay (has L) s e) (x e) ∙ count.count_same _ _ (λ s. count.agree_within_set N (has L) (in_subset N L within) r s e) (x e))) (holds e r)

-- ---- the same sets

module _ (L N : List ℕ) (same_ : is_same_set L N ≡ true) where
  parts : (is_subset L N ≡ true) × (is_subset N L ≡ true)
  parts = and_parts (is_subset L N) (is_subset N L) same_

  all-same : (p : ℕ → Bool) → list_all p L ≡ list_all p N
  all-same p = both_ways _ _
      (λ all. all_has p N (λ k in_. each_has p L all k (in_subset N L parts.1 k in_)))
      (λ all. all_has p L (λ k in_. each_has p N all k (in_subset L N parts.0 k in_)))

  pub same_on-set : (r s : Env) → same_on L r s ≡ same_on N r s
  same_on-set r s = all-same (λ c. same (r c) (s c))

  pub null-set : (r : Env) → has_null L r ≡ has_null N r
  null-set r = any_not (λ k. is_null (r k)) L ∙ ap not (all-same (λ k. not (is_null (r k)))) ∙ sym (any_not (λ k. is_null (r k)) N)

-- ---- keys of the class itself

pub weak-holds : (L : List ℕ) (x : Bag) → IsStrongKey L x → IsWeakKey L x
weak-holds L x strong e r full = strong e r

-- no row has Null in a key whose columns are nowhere Null
null-count : (L : List ℕ) (xs : List Env) → ((c : ℕ) → has L c ≡ true → count (λ r. is_null (r c)) xs ≡ 0) → count (has_null L) xs ≡ 0
null-count [] xs full = total-zero _ (λ r. refl) xs
null-count (k ∷ L) xs full =
    let first : count (λ r. is_null (r k)) xs ≡ 0 = full k (or_left (k == k) (has L k) (eq-eqb k k refl)) in
    let later : count (has_null L) xs ≡ 0 = null-count L xs (λ c in_. full c (or_right (k == c) (has L c) in_)) in
    let all : count (has_null (k ∷ L)) xs ≤ total (λ r. (if is_null (r k) then 1 else 0) + (if has_null L r then 1 else 0)) xs = total_le _ _ (λ r. either (is_null (r k)) (has_null L r)) xs in
    let sum : total (λ r. (if is_null (r k) then 1 else 0) + (if has_null L r then 1 else 0)) xs ≡ count (λ r. is_null (r k)) xs + count (has_null L) xs = total-plus _ _ xs in
    omega (arith, first, later, all, sum)
  where
    either : (a b : Bool) → (if a || b then 1 else 0) ≤ (if a then 1 else 0) + (if b then 1 else 0)
    either true true = omega arith
    either true false = omega arith
    either false true = omega arith
    either false false = omega arith

-- rows that agree on a key have Null there alike
null-alike : (L : List ℕ) (r s : Env) → same_on L r s ≡ true → has_null L s ≡ has_null L r
null-alike [] r s agree = refl
null-alike (k ∷ L) r s agree =
    rw (sym (same_on-reads (k ∷ L) r s k agree (or_left (k == k) (has L k) (eq-eqb k k refl))), null-alike L r s (and_parts (same (r k) (s k)) (same_on L r s) agree).1) refl

pub strong-holds : (L : List ℕ) (x : Bag) → IsWeakKey L x → ((c : ℕ) → has L c ≡ true → HasNoNull c x) → IsStrongKey L x
strong-holds L x weak full e r = by (has_null L r) refl
  where
    by : (b : Bool) → has_null L r ≡ b → count (same_on L r) (x e) ≤ 1
    by true is =
        let fewer : count (same_on L r) (x e) ≤ count (has_null L) (x e) = count_fewer (same_on L r) (has_null L) (λ s agree. null-alike L r s agree ∙ is) (x e) in
        let none : count (has_null L) (x e) ≡ 0 = null-count L (x e) (λ c in_. full c in_ e) in
        omega (arith, fewer, none)
    by false is = weak e r is

-- ---- joins

module _ (p : Test) (A B F G : ColumnSet) (a b : Bag) (fits_a : Fits A F a) (fits_b : Fits B G b) (apart : AreApart A B) where
  pub turned : SameBag (join p A b a) (join p B a b)
  turned e f = sym (joins_commute p A B F G a b fits_a fits_b apart e f)

-- a column that isn't of the right side is read beside it
pub beside-null : (B : ColumnSet) (c : ℕ) → B c ≡ false → Ignores B (λ r. is_null (r c))
beside-null B c out r s = rw out refl

beside-key : (B : ColumnSet) (L : List ℕ) → ((c : ℕ) → has L c ≡ true → B c ≡ false) → (r : Env) → Ignores B (same_on L r)
beside-key B L out r t s = count.agree_beside L B out r s t

-- where it would be Null the conditions don't hold
pub rejected-holds : (p : Test) (B : ColumnSet) (a b : Bag) (c : ℕ) → ((w : Env) → is_null (w c) ≡ true → p w ≡ false) → HasNoNull c (join p B a b)
rejected-holds p B a b c rejects e =
    total_join (λ w. if is_null (w c) then 1 else 0) p B a b e
    ∙ total-zero _ (λ t. total-zero _ (λ s. at (p (lay B s t)) (is_null (lay B s t c)) (rejects (lay B s t))) (b e)) (a e)
  where
    at : (b d : Bool) → (d ≡ true → b ≡ false) → ◌≡◌ {A = ℕ} (if b then (if d then 1 else 0) else 0) 0
    at true true h = cc (h refl)
    at true false h = refl
    at false d h = refl

-- of a side whose columns the fact speaks of, each of whose rows finds one match at most
pub side-holds : (p : Test) (B : ColumnSet) (a b : Bag) (f : Fact) → ((c : ℕ) → has (fact_columns f) c ≡ true → B c ≡ false) → IsSingle p B b → FactHolds a f → FactHolds (join p B a b) f
side-holds p B a b (NotNull c) out single holds = λ e. count.count_bad (λ r. is_null (r c)) p B a b (beside-null B c (out c (or_left (c == c) false (eq-eqb c c refl)))) e (holds e)
side-holds p B a b (WeakKey L) out single holds = λ e r full. le_trans (count.count_join (same_on L r) p B a b (beside-key B L out r) single e) (holds e r full)
side-holds p B a b (StrongKey L) out single holds = λ e r. le_trans (count.count_join (same_on L r) p B a b (beside-key B L out r) single e) (holds e r)

pub left-side-holds : (p : Test) (B : ColumnSet) (a b : Bag) (f : Fact) → ((c : ℕ) → has (fact_columns f) c ≡ true → B c ≡ false) → IsSingle p B b → FactHolds a f → FactHolds (left_join p B a b) f
left-side-holds p B a b (NotNull c) out single holds = λ e. count.count_bad_left (λ r. is_null (r c)) p B a b (beside-null B c (out c (or_left (c == c) false (eq-eqb c c refl)))) e (holds e)
left-side-holds p B a b (WeakKey L) out single holds = λ e r full. le_trans (count.count_left (same_on L r) p B a b (beside-key B L out r) single e) (holds e r full)
left-side-holds p B a b (StrongKey L) out single holds = λ e r. le_trans (count.count_left (same_on L r) p B a b (beside-key B L out r) single e) (holds e r)

-- the union of a key of each side
module _ (p : Test) (B : ColumnSet) (a b : Bag) (L M N : List ℕ) (is : is_same_set N (L ++ M) ≡ true) (out : (c : ℕ) → has L c ≡ true → B c ≡ false) (in_ : (c : ℕ) → has M c ≡ true → B c ≡ true) where
  both-keys : (r s : Env) → same_on N r s ≡ (same_on L r s && same_on M r s)
  both-keys r s = same_on-set N (L ++ M) is r s ∙ list_all-append (λ c. same (r c) (s c)) L M

  either-null : (r : Env) → has_null N r ≡ (has_null L r || has_null M r)
  either-null r = null-set N (L ++ M) is r ∙ list_any-append (λ k. is_null (r k)) L M

  full-left : (r : Env) → has_null N r ≡ false → has_null L r ≡ false
  full-left r full = (or_parts (has_null L r) (has_null M r) (sym (either-null r) ∙ full)).0

  full-right : (r : Env) → has_null N r ≡ false → has_null M r ≡ false
  full-right r full = (or_parts (has_null L r) (has_null M r) (sym (either-null r) ∙ full)).1

  pub strong-union : IsStrongKey L a → IsStrongKey M b → IsStrongKey N (join p B a b)
  strong-union left right e r =
      le_trans (subst (λ n. n ≤ count (same_on L r) (a e)) (sym (count.count_same _ _ (both-keys r) (join p B a b e)))
      (count.count_pairs (same_on L r) (same_on M r) p B a b (beside-key B L out r) (λ s t. count.agree_within_set M B in_ r s t) e (right e r))) (left e r)

  pub weak-union : IsWeakKey L a → IsWeakKey M b → IsWeakKey N (join p B a b)
  weak-union left right e r full =
      le_trans (subst (λ n. n ≤ count (same_on L r) (a e)) (sym (count.count_same _ _ (both-keys r) (join p B a b e)))
      (count.count_pairs (same_on L r) (same_on M r) p B a b (beside-key B L out r) (λ s t. count.agree_within_set M B in_ r s t) e (right e r (full-right r full)))) (left e r (full-left r full))

  pub strong-left-union : IsStrongKey L a → IsStrongKey M b → IsStrongKey N (left_join p B a b)
  strong-left-union left right e r =
      le_trans (subst (λ n. n ≤ count (same_on L r) (a e)) (sym (count.count_same _ _ (both-keys r) (left_join p B a b e)))
      (count.count_padded_pairs (same_on L r) (same_on M r) p B a b (beside-key B L out r) (λ s t. count.agree_within_set M B in_ r s t) e (right e r))) (left e r)

  pub weak-left-union : IsWeakKey L a → IsWeakKey M b → IsWeakKey N (left_join p B a b)
  weak-left-union left right e r full =
      le_trans (subst (λ n. n ≤ count (same_on L r) (a e)) (sym (count.count_same _ _ (both-keys r) (left_join p B a b e)))
      (count.count_padded_pairs (same_on L r) (same_on M r) p B a b (beside-key B L out r) (λ s t. count.agree_within_set M B in_ r s t) e (right e r (full-right r full)))) (left e r (full-left r full))
