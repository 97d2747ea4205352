-- The truths that conditions can have where columns are Null.
-- Null rejection: Galindo-Legaria and Rosenthal, Outerjoin simplification and reordering for query optimization, ACM TODS 22(1), 1997.
use Rattle.std.specs.Prelude.{◌≡◌, ℕ, Bool, true, false, not, ◌&&◌, ◌||◌, ◌==◌, if◌then◌else◌, List, ◌∷◌, map, fold}
use Rattle.std.specs.List.{list_any}
use Rattle.values.specs.declared.value.Value.TheVariants as value
use Rattle.values.specs.declared.truth.Truth.{Truth}
use Rattle.values.specs.declared.truth.Truth.TheVariants.{False, Unknown, True}
use Rattle.values.specs.Truth.{is_null}
use Rattle.algebra.specs.declared.condition.Term.{Term}
use Rattle.algebra.specs.declared.condition.Term.TheVariants as term
use Rattle.algebra.specs.declared.condition.Condition.{Condition, fold-Condition}
use Rattle.algebra.specs.declared.condition.Condition.TheOpen.{Condition-F}
use Rattle.algebra.specs.Columns.{ColumnSet, has}
use Rattle.algebra.specs.Bags.{Env, Bag}
use Rattle.algebra.specs.Conditions.{truth, holds}
use Rattle.props.specs.declared.outcomes.Truths.{Truths}
use Rattle.props.specs.declared.outcomes.NullColumns.{NullColumns}
use Rattle.props.specs.declared.outcomes.NullColumns.TheVariants.{One, All}

-- ---- sets of truths

-- whether a truth is among them
abbrev pub allows : Truths → Truth → Bool
allows A True = A.can_be_true
allows A False = A.can_be_false
allows A Unknown = A.can_be_unknown

abbrev pub is_some : Truths → Bool
is_some A = A.can_be_true || A.can_be_false || A.can_be_unknown

abbrev pub known : Bool → Bool → Truths
known t f = record { can_be_true = t; can_be_false = f; can_be_unknown = false }

-- a comparison with Null is unknown, and so is an IN, or false where the subquery has no row; without Null all three are possible
abbrev pub compared : Bool → Bool → Truths
compared with_null f = record { can_be_true = not with_null; can_be_false = not with_null || f; can_be_unknown = true }

abbrev pub of_not : Truths → Truths
of_not A = record { can_be_true = A.can_be_false; can_be_false = A.can_be_true; can_be_unknown = A.can_be_unknown }

-- true where both can be, false where a side can be, unknown where a side can be and the other can be other than false
abbrev pub of_and : Truths → Truths → Truths
of_and A B = record {
  can_be_true = A.can_be_true && B.can_be_true;
  can_be_false = (A.can_be_false && is_some B) || (is_some A && B.can_be_false);
  can_be_unknown = (A.can_be_unknown && (B.can_be_true || B.can_be_unknown)) || (A.can_be_true && B.can_be_unknown);
}

-- true where a side can be, false where both can be, unknown where a side can be and the other can be other than true
abbrev pub of_or : Truths → Truths → Truths
of_or A B = record {
  can_be_true = (A.can_be_true && is_some B) || (is_some A && B.can_be_true);
  can_be_false = A.can_be_false && B.can_be_false;
  can_be_unknown = (A.can_be_unknown && (B.can_be_false || B.can_be_unknown)) || (A.can_be_false && B.can_be_unknown);
}

-- ---- conditions, where the columns are Null

-- whether a term is NULL or one of the columns
abbrev pub is_nulled : ColumnSet → Term → Bool
is_nulled N (term.Column c) = N c
is_nulled N (term.Literal v) = is_null v

abbrev pub null_outcomes : ColumnSet → Term → Truths
null_outcomes N (term.Column c) = if N c then known true false else known true true
null_outcomes N (term.Literal v) = if is_null v then known true false else known false true

abbrev pub outcomes_layer : Condition-F (ColumnSet → Truths) → ColumnSet → Truths
outcomes_layer (Condition-F.Compare op a b) N = compared (is_nulled N a || is_nulled N b) false
outcomes_layer (Condition-F.IsNull a) N = null_outcomes N a
outcomes_layer (Condition-F.Not c) N = of_not (c N)
outcomes_layer (Condition-F.And a b cs) N = fold of_and (known true false) (map (λ c. c N) (a ∷ b ∷ cs))
outcomes_layer (Condition-F.Or a b cs) N = fold of_or (known false true) (map (λ c. c N) (a ∷ b ∷ cs))
outcomes_layer (Condition-F.Exists g) N = known true true
outcomes_layer (Condition-F.In a g k) N = compared (is_nulled N a) true

unfoldable pub outcomes : Condition → ColumnSet → Truths
outcomes = fold-Condition (ColumnSet → Truths) outcomes_layer

-- conditions of which one can't be true
abbrev pub never_true : List Condition → ColumnSet → Bool
never_true C N = list_any (λ c. not (outcomes c N).can_be_true) C

-- ---- as code is given them

abbrev pub null_set : NullColumns → ColumnSet
null_set (One c) k = c == k
null_set (All columns) k = has columns.now k

-- ---- soundness

-- the row has Null in each of the columns
abbrev pub IsNullIn : ColumnSet → Env → Type 0
IsNullIn N r = (k : ℕ) → N k ≡ true → r k ≡ value.Null

abbrev pub OutcomesAreSound : Type 0
OutcomesAreSound = (c : Condition) (N : ColumnSet) (rows : ℕ → Bag) (r : Env) → IsNullIn N r → allows (outcomes c N) (truth c rows r) ≡ true

abbrev pub NeverTrueIsSound : Type 0
NeverTrueIsSound = (C : List Condition) (N : ColumnSet) (rows : ℕ → Bag) (r : Env) → IsNullIn N r → never_true C N ≡ true → holds rows C r ≡ false
