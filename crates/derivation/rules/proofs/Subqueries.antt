-- The class of a condition that is a subquery: one equation for each form.
use Rattle.std.proofs.Common.{◌≡◌, ap, sym, ◌∙◌, ℕ, List, Option, Some, None}
use Rattle.values.specs.declared.truth.Comparison.{Comparison}
use Rattle.algebra.specs.declared.condition.Condition.{Condition, roll-Condition, fold-roll-Condition, map-Condition}
use Rattle.algebra.specs.declared.condition.Condition.TheOpen.{Condition-F}
use Rattle.algebra.specs.declared.condition.Condition.TheVariants.{Compare, IsNull, Not, And, Or, Exists, In, rolls-Compare, rolls-IsNull, rolls-Not, rolls-And, rolls-Or, rolls-Exists, rolls-In}
use Rattle.algebra.specs.declared.condition.Term.{Term}
use Rattle.rules.specs.Patterns.{subquery_layer, subquery_of}

subquery-at : (x : Condition-F Condition) (c : Condition) → roll-Condition x ≡ c → subquery_of c ≡ subquery_layer (map-Condition Condition (Option ℕ) subquery_of x)
unfolding subquery_of
subquery-at x c is = ap subquery_of (sym is) ∙ fold-roll-Condition (Option ℕ) subquery_layer x

pub subquery-Compare : (op : Comparison) (a b : Term) → subquery_of (Compare op a b) ≡ None
subquery-Compare op a b = subquery-at (Condition-F.Compare op a b) _ (rolls-Compare op a b)

pub subquery-IsNull : (a : Term) → subquery_of (IsNull a) ≡ None
subquery-IsNull a = subquery-at (Condition-F.IsNull a) _ (rolls-IsNull a)

pub subquery-Not : (c : Condition) → subquery_of (Not c) ≡ subquery_of c
subquery-Not c = subquery-at (Condition-F.Not c) _ (rolls-Not c)

pub subquery-And : (a b : Condition) (cs : List Condition) → subquery_of (And a b cs) ≡ None
subquery-And a b cs = subquery-at (Condition-F.And a b cs) _ (rolls-And a b cs)

pub subquery-Or : (a b : Condition) (cs : List Condition) → subquery_of (Or a b cs) ≡ None
subquery-Or a b cs = subquery-at (Condition-F.Or a b cs) _ (rolls-Or a b cs)

pub subquery-Exists : (g : ℕ) → subquery_of (Exists g) ≡ Some g
subquery-Exists g = subquery-at (Condition-F.Exists g) _ (rolls-Exists g)

pub subquery-In : (a : Term) (g k : ℕ) → subquery_of (In a g k) ≡ Some g
subquery-In a g k = subquery-at (Condition-F.In a g k) _ (rolls-In a g k)
