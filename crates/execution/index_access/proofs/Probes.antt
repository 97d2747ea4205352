-- What conditions bound, and the cuts that follow.
use Rattle.std.proofs.Common.{◌≡◌, refl, ap, sym, ◌∙◌, ℕ, zero, suc, ◌<◌, Bool, true, false, not, List, [], ◌∷◌, ◌++◌, length, get_or, map, Option, Some, None, IfSome, arith}
use Rattle.std.specs.List.{list_all, list_any}
use Rattle.std.specs.declared.cmp.Ordering.{Ordering}
use Rattle.std.specs.declared.cmp.Ordering.TheVariants as by
use Rattle.std.specs.Ordering.{ordering_then}
use Rattle.std.proofs.lemmas.Bool.{and_parts}
use Rattle.std.proofs.lemmas.List.{length-map}
use Rattle.values.specs.declared.truth.Comparison.{Comparison}
use Rattle.values.specs.declared.truth.Comparison.TheVariants.{Equal, NotEqual, Less, LessOrEqual, Greater, GreaterOrEqual}
use Rattle.values.specs.declared.value.Value.{Value}
use Rattle.values.specs.declared.value.Value.TheVariants as value
use Rattle.values.specs.Order.{order}
use Rattle.values.specs.Truth.{admits, compare, is_null, is_true, truth_of}
use Rattle.algebra.specs.Bags.{Env}
use Rattle.relations.specs.declared.relation.Relation.{Relation}
use Rattle.relations.specs.Relations.{numbered_env}
use Rattle.algebra.specs.declared.condition.Condition.{Condition}
use Rattle.index_access.specs.declared.bounds.Bound.{Bound}
use Rattle.index_access.specs.declared.bounds.Side.TheVariants as side
use Rattle.index_access.specs.declared.cuts.KeyCell.{KeyCell}
use Rattle.index_access.specs.Cuts.{key_order, key_value, goes_before}
use Rattle.index_access.specs.Probes.{Begins, IsBounded, IsSure, IsWithin, bounds, is_bounded, is_strict, next_value}

truth-true : (b : Bool) → is_true (truth_of b) ≡ true → b ≡ true
truth-true true h = refl
truth-true false h = cc

pub admitted : (c : Comparison) (v w : Value) → is_true (compare c v w) ≡ true → admits c (order v w) ≡ true
admitted c value.Null w h = cc
admitted c (value.Int m) value.Null h = cc
admitted c (value.Int m) (value.Int n) h = truth-true _ h
admitted c (value.Int m) (value.Text t) h = truth-true _ h
admitted c (value.Text s) value.Null h = cc
admitted c (value.Text s) (value.Int n) h = truth-true _ h
admitted c (value.Text s) (value.Text t) h = truth-true _ h

-- no side of a comparison that is true is Null
behind-null : (c : Comparison) (v w : Value) → is_true (compare c v w) ≡ true → order v value.Null ≡ by.Greater
behind-null c value.Null w h = cc
behind-null c (value.Int m) w h = refl
behind-null c (value.Text s) w h = refl

right-known : (c : Comparison) (v w : Value) → is_true (compare c v w) ≡ true → is_null w ≡ false
right-known c value.Null w h = cc
right-known c (value.Int m) value.Null h = cc
right-known c (value.Int m) (value.Int n) h = refl
right-known c (value.Int m) (value.Text t) h = refl
right-known c (value.Text s) value.Null h = cc
right-known c (value.Text s) (value.Int n) h = refl
right-known c (value.Text s) (value.Text t) h = refl

tied : (o : Ordering) → admits Equal o ≡ true → o ≡ by.Equal
tied by.Less h = cc
tied by.Equal h = refl
tied by.Greater h = cc

not-below : (c : Comparison) (o : Ordering) → bounds side.Below c ≡ true → admits c o ≡ true → goes_before (is_strict c) o ≡ false
not-below Equal o s h = cc
not-below NotEqual o s h = cc
not-below Less o s h = cc
not-below LessOrEqual o s h = cc
not-below Greater by.Less s h = cc
not-below Greater by.Equal s h = cc
not-below Greater by.Greater s h = refl
not-below GreaterOrEqual by.Less s h = cc
not-below GreaterOrEqual by.Equal s h = refl
not-below GreaterOrEqual by.Greater s h = refl

not-above : (c : Comparison) (o : Ordering) → bounds side.Above c ≡ true → admits c o ≡ true → goes_before (not (is_strict c)) o ≡ true
not-above Equal o s h = cc
not-above NotEqual o s h = cc
not-above Greater o s h = cc
not-above GreaterOrEqual o s h = cc
not-above Less by.Less s h = refl
not-above Less by.Equal s h = cc
not-above Less by.Greater s h = cc
not-above LessOrEqual by.Less s h = refl
not-above LessOrEqual by.Equal s h = refl
not-above LessOrEqual by.Greater s h = cc

-- ---- keys

pub begins_more : (f : Env) (columns : List ℕ) (key : List Value) (c : ℕ) (v : Value) → Begins f columns key → length key < length columns → c ≡ get_or columns (length key) c → is_true (compare Equal (f c) v) ≡ true
    → Begins f columns (key ++ v ∷ [])
begins_more f [] key c v h low at is = absurd (omega (arith, low))
begins_more f (k ∷ columns) [] c v h low at is = (rw at at is, tt)
begins_more f (k ∷ columns) (w ∷ key) c v h low at is = (h.0, begins_more f columns key c v h.1 (omega (arith, low)) at is)

exact : (c : Comparison) (v w : Value) → bounds side.Exact c ≡ true → is_true (compare c v w) ≡ true → is_true (compare Equal v w) ≡ true
exact Equal v w s h = h
exact NotEqual v w s h = cc
exact Less v w s h = cc
exact LessOrEqual v w s h = cc
exact Greater v w s h = cc
exact GreaterOrEqual v w s h = cc

pub sure_more : (own : List ℕ) (conditions : List Condition) (e : Env) (columns : List ℕ) (key : List Value) (b : Bound) (c : ℕ) → IsSure own conditions e (λ f. Begins f columns key) → IsSure own conditions e (λ f. is_bounded b (f c) ≡ true)
    → bounds side.Exact b.comparison ≡ true → length key < length columns → c ≡ get_or columns (length key) c → IsSure own conditions e (λ f. Begins f columns (key ++ key_value b.cell ∷ []))
sure_more own conditions e columns key b c begins bounded s low at f within passes =
    begins_more f columns key c (key_value b.cell) (begins f within passes) low at (exact b.comparison (f c) (key_value b.cell) s (bounded f within passes))

-- the value behind the key is that of the column there
pub next_at : (f : Env) (columns : List ℕ) (key : List Value) (c : ℕ) → length key < length columns → c ≡ get_or columns (length key) c → next_value f columns key ≡ f c
next_at f [] key c low at = absurd (omega (arith, low))
next_at f (k ∷ columns) [] c low at = ap f (sym at)
next_at f (k ∷ columns) (w ∷ key) c low at = next_at f columns key c (omega (arith, low)) at

pub equal-order : (v w : Value) → is_true (compare Equal v w) ≡ true → order v w ≡ by.Equal
equal-order v w h = tied (order v w) (admitted Equal v w h)

equal-first : (f : Env) (c : ℕ) (v : Value) (o : Ordering) → is_true (compare Equal (f c) v) ≡ true → ordering_then (order (f c) v) o ≡ o
equal-first f c v o h = ap (λ p. ordering_then p o) (equal-order (f c) v h)

key-equal : (f : Env) (columns : List ℕ) (key : List Value) → Begins f columns key → key_order f columns key ≡ by.Equal
key-equal f [] key h = refl
key-equal f (c ∷ columns) [] h = refl
key-equal f (c ∷ columns) (v ∷ key) h = equal-first f c v (key_order f columns key) h.0 ∙ key-equal f columns key h.1

then-equal : (o : Ordering) → ordering_then o by.Equal ≡ o
then-equal by.Less = refl
then-equal by.Equal = refl
then-equal by.Greater = refl

no-more : (f : Env) (columns : List ℕ) → key_order f columns [] ≡ by.Equal
no-more f [] = refl
no-more f (c ∷ columns) = refl

key-next : (f : Env) (columns : List ℕ) (key : List Value) (v : Value) → Begins f columns key → length key < length columns → key_order f columns (key ++ v ∷ []) ≡ order (next_value f columns key) v
key-next f [] key v h low = absurd (omega (arith, low))
key-next f (c ∷ columns) [] v h low = ap (ordering_then (order (f c) v)) (no-more f columns) ∙ then-equal (order (f c) v)
key-next f (c ∷ columns) (w ∷ key) v h low = equal-first f c w (key_order f columns (key ++ v ∷ [])) h.0 ∙ key-next f columns key v h.1 (omega (arith, low))

key-known : (f : Env) (columns : List ℕ) (key : List KeyCell) → Begins f columns (map key_value key) → list_any (λ c. is_null (key_value c)) key ≡ false
key-known f columns [] h = refl
key-known f [] (v ∷ key) h = absurd h
key-known f (c ∷ columns) (v ∷ key) h = rw (right-known Equal (f c) (key_value v) h.0) (key-known f columns key h.1)

-- ---- cuts

pub behind_low : (f : Env) (columns : List ℕ) (key longer : List Value) (c : Comparison) (v : Value) → Begins f columns key → bounds side.Below c ≡ true → length key < length columns
    → is_true (compare c (next_value f columns key) v) ≡ true → longer ≡ key ++ v ∷ [] → goes_before (is_strict c) (key_order f columns longer) ≡ false
behind_low f columns key longer c v h s low is e =
    ap (λ k. goes_before (is_strict c) (key_order f columns k)) e ∙ ap (goes_before (is_strict c)) (key-next f columns key v h low)
    ∙ not-below c (order (next_value f columns key) v) s (admitted c (next_value f columns key) v is)

pub behind_nulls : (f : Env) (columns : List ℕ) (key longer : List Value) (c : Comparison) (v : Value) → Begins f columns key → length key < length columns → is_true (compare c (next_value f columns key) v) ≡ true
    → longer ≡ key ++ value.Null ∷ [] → goes_before true (key_order f columns longer) ≡ false
behind_nulls f columns key longer c v h low is e =
    ap (λ k. goes_before true (key_order f columns k)) e ∙ ap (goes_before true) (key-next f columns key value.Null h low ∙ behind-null c (next_value f columns key) v is)

pub behind_key : (f : Env) (columns : List ℕ) (key : List Value) → Begins f columns key → goes_before false (key_order f columns key) ≡ false
behind_key f columns key h = ap (goes_before false) (key-equal f columns key h)

pub before_high : (f : Env) (columns : List ℕ) (key longer : List Value) (c : Comparison) (v : Value) → Begins f columns key → bounds side.Above c ≡ true → length key < length columns
    → is_true (compare c (next_value f columns key) v) ≡ true → longer ≡ key ++ v ∷ [] → goes_before (not (is_strict c)) (key_order f columns longer) ≡ true
before_high f columns key longer c v h s low is e =
    ap (λ k. goes_before (not (is_strict c)) (key_order f columns k)) e ∙ ap (goes_before (not (is_strict c))) (key-next f columns key v h low)
    ∙ not-above c (order (next_value f columns key) v) s (admitted c (next_value f columns key) v is)

pub before_end : (f : Env) (columns : List ℕ) (key : List KeyCell) (b : Bool) → Begins f columns (map key_value key) → b ≡ list_any (λ c. is_null (key_value c)) key → goes_before (not b) (key_order f columns (map key_value key)) ≡ true
before_end f columns key b h e = ap (goes_before (not b)) (key-equal f columns (map key_value key) h) ∙ ap not (e ∙ key-known f columns key h)

-- ---- conditions

pub passes_each : {X : Type 0} (p : X → Bool) (xs : List X) (i : ℕ) (x : X) → i < length xs → x ≡ get_or xs i x → list_all p xs ≡ true → p x ≡ true
passes_each p [] i x low at all = absurd (omega (arith, low))
passes_each p (y ∷ xs) zero x low at all = ap p at ∙ (and_parts (p y) (list_all p xs) all).0
passes_each p (y ∷ xs) (suc i) x low at all = passes_each p xs i x (omega (arith, low)) at (and_parts (p y) (list_all p xs) all).1

-- a relation's row has the environment's values in all columns that the relation lacks
pub row_within : (r : Relation) (e : Env) (n : ℕ) → IsWithin r.heading.columns e (numbered_env r e n)
row_within r e n c off = rw off refl

pub bounded_next : (own : List ℕ) (conditions : List Condition) (e : Env) (columns : List ℕ) (key : List KeyCell) (c : ℕ) (bound : Option Bound) → length key < length columns → c ≡ get_or columns (length key) c
    → IfSome bound (λ b. IsSure own conditions e (λ f. is_bounded b (f c) ≡ true)) → IsSure own conditions e (λ f. IsBounded f columns (map key_value key) bound)
bounded_next own conditions e columns key c None low at ordinary f within passes = tt
bounded_next own conditions e columns key c (Some b) low at ordinary f within passes =
    let long : length (map key_value key) ≡ length key = length-map key key_value in
    let here : length (map key_value key) < length columns = omega (arith, long, low) in
    (here, ap (is_bounded b) (next_at f columns (map key_value key) c here (rw long at)) ∙ ordinary f within passes)
