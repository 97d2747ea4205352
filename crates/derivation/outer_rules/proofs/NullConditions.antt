-- Conditions that ask a column to be Null.
use Rattle.std.proofs.Common.{◌≡◌, refl, ap, sym, ◌∙◌, inl, inr, ℕ, Bool, true, false, ◌&&◌, List, [], ◌∷◌, Option, Some, None}
use Rattle.std.specs.List.{list_all, list_any}
use Rattle.std.proofs.lemmas.Bool.{and_parts, and_from, or_cases}
use Rattle.values.specs.Truth.{is_null, is_true, truth_of}
use Rattle.algebra.specs.declared.condition.Condition.{Condition, roll-Condition, out-Condition, roll-out-Condition, fold-roll-Condition, map-Condition}
use Rattle.algebra.specs.declared.condition.Condition.TheOpen.{Condition-F}
use Rattle.algebra.specs.declared.condition.Condition.TheVariants.{IsNull, rolls-IsNull}
use Rattle.algebra.specs.declared.condition.Term.{Term}
use Rattle.algebra.specs.declared.condition.Term.TheVariants as term
use Rattle.algebra.specs.Columns.{ColumnSet}
use Rattle.algebra.specs.Bags.{Env, Bag}
use Rattle.algebra.specs.Conditions.{truth, holds}
use Rattle.algebra.proofs.Truths.{truth-IsNull}
use Rattle.outer_rules.specs.OuterJoinIsAnti as spec

null_column-at : (x : Condition-F Condition) (c : Condition) → roll-Condition x ≡ c → spec.null_column c ≡ spec.null_column_layer (map-Condition Condition (Option ℕ) spec.null_column x)
unfolding spec.null_column
null_column-at x c is = ap spec.null_column (sym is) ∙ fold-roll-Condition (Option ℕ) spec.null_column_layer x

pub null_column-IsNull : (a : Term) → spec.null_column (IsNull a) ≡ spec.column_of a
null_column-IsNull a = null_column-at (Condition-F.IsNull a) _ (rolls-IsNull a)

-- nothing else does
pub null_column-else : (c : Condition) → ((a : Term) → c ≡ IsNull a → ⊥) → spec.null_column c ≡ None
null_column-else c other = by (out-Condition c) (roll-out-Condition c)
  where
    by : (x : Condition-F Condition) → roll-Condition x ≡ c → spec.null_column c ≡ None
    by (Condition-F.IsNull a) is = absurd (other a (sym is ∙ rolls-IsNull a))
    by (Condition-F.Compare op a b) is = null_column-at (Condition-F.Compare op a b) c is
    by (Condition-F.Not d) is = null_column-at (Condition-F.Not d) c is
    by (Condition-F.And a b cs) is = null_column-at (Condition-F.And a b cs) c is
    by (Condition-F.Or a b cs) is = null_column-at (Condition-F.Or a b cs) c is
    by (Condition-F.Exists g) is = null_column-at (Condition-F.Exists g) c is
    by (Condition-F.In a g j) is = null_column-at (Condition-F.In a g j) c is

-- the condition of a column
null_column-is : (c : Condition) (k : ℕ) → spec.null_column c ≡ Some k → c ≡ IsNull (term.Column k)
null_column-is c k is = by (out-Condition c) (roll-out-Condition c)
  where
    of : (a : Term) → spec.column_of a ≡ Some k → a ≡ term.Column k
    of (term.Column j) same = ap term.Column (let e : j ≡ k = cc in e)
    of (term.Literal v) same = cc

    by : (x : Condition-F Condition) → roll-Condition x ≡ c → c ≡ IsNull (term.Column k)
    by (Condition-F.IsNull a) at = sym at ∙ rolls-IsNull a ∙ ap IsNull (of a (sym (null_column-at (Condition-F.IsNull a) c at) ∙ is))
    by (Condition-F.Compare op a b) at = cc (null_column-at (Condition-F.Compare op a b) c at, is)
    by (Condition-F.Not d) at = cc (null_column-at (Condition-F.Not d) c at, is)
    by (Condition-F.And a b cs) at = cc (null_column-at (Condition-F.And a b cs) c at, is)
    by (Condition-F.Or a b cs) at = cc (null_column-at (Condition-F.Or a b cs) c at, is)
    by (Condition-F.Exists g) at = cc (null_column-at (Condition-F.Exists g) c at, is)
    by (Condition-F.In a g j) at = cc (null_column-at (Condition-F.In a g j) c at, is)

-- it is true where the column is Null alone
asked-is : (c : Condition) (k : ℕ) → spec.null_column c ≡ Some k → (rows : ℕ → Bag) (r : Env) → is_true (truth c rows r) ≡ is_null (r k)
asked-is c k is rows r = ap (λ d. is_true (truth d rows r)) (null_column-is c k is) ∙ ap is_true (truth-IsNull (term.Column k) rows r) ∙ told (is_null (r k))
  where
    told : (b : Bool) → is_true (truth_of b) ≡ b
    told true = refl
    told false = refl

-- conditions that ask columns of a set to be Null hold where all of these are
pub asked-hold : (p : ColumnSet) (N : List Condition) → list_all (spec.asks_null p) N ≡ true → (rows : ℕ → Bag) (r : Env) → ((k : ℕ) → p k ≡ true → is_null (r k) ≡ true) → holds rows N r ≡ true
asked-hold p [] all rows r null = refl
asked-hold p (c ∷ N) all rows r null = let both = and_parts (spec.asks_null p c) (list_all (spec.asks_null p) N) all in and_from _ _ (by (spec.null_column c) refl both.0) (asked-hold p N both.1 rows r null)
  where
    by : (o : Option ℕ) → spec.null_column c ≡ o → spec.is_in p o ≡ true → is_true (truth c rows r) ≡ true
    by None is in_ = cc
    by (Some k) is in_ = asked-is c k is rows r ∙ null k in_

-- where they hold, a column that one of them asks to be Null is
pub asked-null : (p : ColumnSet) (N : List Condition) → list_any (spec.asks_null p) N ≡ true → (k : ℕ) × (p k ≡ true) × ((rows : ℕ → Bag) (r : Env) → is_null (r k) ≡ false → holds rows N r ≡ false)
asked-null p [] some = cc
asked-null p (c ∷ N) some = elim (or_cases (spec.asks_null p c) (list_any (spec.asks_null p) N) some) [
  | inl here ↦ by (spec.null_column c) refl here
  | inr later ↦ let found = asked-null p N later in (found.0, found.1, λ rows r filled. rw (found.2 rows r filled) (none (is_true (truth c rows r))))
]
  where
    none : (b : Bool) → (b && false) ≡ false
    none true = refl
    none false = refl

    by : (o : Option ℕ) → spec.null_column c ≡ o → spec.is_in p o ≡ true → (k : ℕ) × (p k ≡ true) × ((rows : ℕ → Bag) (r : Env) → is_null (r k) ≡ false → holds rows (c ∷ N) r ≡ false)
    by None is in_ = cc
    by (Some k) is in_ = (k, in_, λ rows r filled. rw (asked-is c k is rows r ∙ filled) refl)
