-- Unnesting: a conjunct that is a subquery is a semijoin or an antijoin with the subquery's rows.
-- Kim, On optimizing an SQL-like nested query, ACM TODS 7(3), 1982. Null-aware antijoins: Bellamkonda et al., Enhanced subquery optimizations in Oracle, PVLDB 2(2), 2009.
use Rattle.std.specs.Prelude.{ℕ, Bool, true, false, ◌&&◌, if◌then◌else◌, List, [], ◌∷◌, Option, Some, None, Result, Err}
use Rattle.values.specs.declared.truth.Comparison.TheVariants as by
use Rattle.values.specs.Faults.{wanted_if}
use Rattle.algebra.specs.declared.condition.Condition.{Condition, out-Condition}
use Rattle.algebra.specs.declared.condition.Condition.TheOpen.{Condition-F}
use Rattle.algebra.specs.declared.condition.Condition.TheVariants.{Compare, Exists}
use Rattle.algebra.specs.declared.condition.Term.{Term}
use Rattle.algebra.specs.declared.condition.Term.TheVariants as term
use Rattle.algebra.specs.declared.expr.Expr.{Expr}
use Rattle.algebra.specs.declared.expr.Expr.TheVariants as expr
use Rattle.algebra.specs.Columns.{has, are_disjoint}
use Rattle.algebra.specs.ConditionEquality.{same_condition}
use Rattle.algebra.specs.Conditions.{term_columns}
use Rattle.algebra.specs.ConjunctOrder.{conjuncts}
use Rattle.algebra.specs.ConjunctParts.{rest, union}
use Rattle.algebra.specs.Expressions.{is_plain}
use Rattle.props.specs.Knowledge.{Knowledge}
use Rattle.rules.specs.declared.shape.Shape.{Shape}
use Rattle.rules.specs.declared.shape.Shape.TheVariants.{Class, Semi, Anti}
use Rattle.rules.specs.declared.unfit.Unfit.{Unfit}
use Rattle.rules.specs.declared.unfit.Unfit.TheVariants.{Pattern, Condition as FailedCondition}
use Rattle.rules.specs.Bindings.{SubqueryPick}
use Rattle.rules.specs.Conjuncts.{is_apart_from}
use Rattle.rules.specs.Shapes.{selected}

-- ---- what is picked

abbrev pub exists_layer : Condition-F Condition → Bool
exists_layer (Condition-F.Exists g) = true
exists_layer c = false

abbrev pub is_exists : Condition → Bool
is_exists c = exists_layer (out-Condition c)

abbrev pub not_exists_layer : Condition-F Condition → Bool
not_exists_layer (Condition-F.Not c) = is_exists c
not_exists_layer c = false

abbrev pub is_not_exists : Condition → Bool
is_not_exists c = not_exists_layer (out-Condition c)

abbrev pub member_layer : Condition-F Condition → Option (Term × ℕ)
member_layer (Condition-F.In a g k) = Some (a, k)
member_layer c = None

-- the term and the column of an IN
abbrev pub member : Condition → Option (Term × ℕ)
member c = member_layer (out-Condition c)

abbrev pub denied_layer : Condition-F Condition → Option (Term × ℕ)
denied_layer (Condition-F.Not c) = member c
denied_layer c = None

-- and of an IN under NOT
abbrev pub denied_member : Condition → Option (Term × ℕ)
denied_member c = denied_layer (out-Condition c)

-- ---- the conjuncts that stay

abbrev pub all_but : Condition → List Condition → List Condition
all_but c C = rest (λ d. same_condition d c) C

-- those but for the picked one; each stands once in a list of conjuncts
abbrev pub others : SubqueryPick → List Condition
others p = conjuncts (all_but p.condition p.conjuncts)

-- ---- what the subquery's rows are joined by

-- the conditions have no subquery, the sides share no column, and the class reads no column of the input: its rows are the same at each of the input's
abbrev pub can_join : Knowledge → ℕ → List Condition → ℕ → Bool
can_join K x P b = (is_plain P && are_disjoint (K.columns x) (K.columns b)) && is_apart_from K x (Exists b)

-- the column is the class's, and the term is not
abbrev pub is_across : (ℕ → List ℕ) → Term × ℕ → ℕ → Bool
is_across cols m b = has (cols b) m.1 && are_disjoint (term_columns m.0) (cols b)

-- the equality of the term and the column
abbrev pub equated : Term × ℕ → List Condition
equated m = conjuncts (Compare by.Equal m.0 (term.Column m.1) ∷ [])

-- ---- what is given

abbrev pub semi_of : SubqueryPick → List Condition → ℕ → Shape
semi_of p C b = selected (others p) (Semi C (Class p.input) (Class b))

abbrev pub anti_of : SubqueryPick → List Condition → List Condition → ℕ → Shape
anti_of p S M b = selected (others p) (Anti S M (Class p.input) (Class b))

-- of a subquery whose rows are those of the class that the conditions hold with
abbrev pub exists_as_semi : Knowledge → SubqueryPick → List Condition → ℕ → Result Shape Unfit
exists_as_semi K p P b = if is_exists p.condition then wanted_if FailedCondition (can_join K p.input P b) (semi_of p P b) else Err Pattern

abbrev pub not_exists_as_anti : Knowledge → SubqueryPick → List Condition → ℕ → Result Shape Unfit
not_exists_as_anti K p P b = if is_not_exists p.condition then wanted_if FailedCondition (can_join K p.input P b) (anti_of p P [] b) else Err Pattern

-- IN asks for a row whose column is equal to the term
abbrev pub member_as_semi : Knowledge → SubqueryPick → List Condition → ℕ → Option (Term × ℕ) → Result Shape Unfit
member_as_semi K p P b None = Err Pattern
member_as_semi K p P b (Some m) = wanted_if FailedCondition (can_join K p.input P b && is_across K.columns m b) (semi_of p (union P (equated m)) b)

abbrev pub in_as_semi : Knowledge → SubqueryPick → List Condition → ℕ → Result Shape Unfit
in_as_semi K p P b = member_as_semi K p P b (member p.condition)

-- NOT IN asks for none whose column may be
abbrev pub member_as_anti : Knowledge → SubqueryPick → List Condition → ℕ → Option (Term × ℕ) → Result Shape Unfit
member_as_anti K p P b None = Err Pattern
member_as_anti K p P b (Some m) = wanted_if FailedCondition (can_join K p.input P b && is_across K.columns m b) (anti_of p P (equated m) b)

abbrev pub not_in_as_anti : Knowledge → SubqueryPick → List Condition → ℕ → Result Shape Unfit
not_in_as_anti K p P b = member_as_anti K p P b (denied_member p.condition)

-- ---- whose rows they are

abbrev pub Unnesting : Type 0
Unnesting = Knowledge → SubqueryPick → List Condition → ℕ → Result Shape Unfit

-- the subquery's rows are those of its class
abbrev pub alone : Unnesting → Knowledge → SubqueryPick → Result Shape Unfit
alone unnest K p = unnest K p [] p.class

-- they are the rows of a selection's input with which its conditions hold
abbrev pub of_select : Unnesting → Knowledge → SubqueryPick → Expr → Result Shape Unfit
of_select unnest K p (expr.Select P b) = unnest K p P b
of_select unnest K p y = Err Pattern
