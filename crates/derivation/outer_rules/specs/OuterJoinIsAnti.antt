-- A projection, without the right side's columns, of the padded rows of an outer join is one of the left rows that find none.
-- Galindo-Legaria and Rosenthal, Outerjoin simplification and reordering for query optimization, ACM TODS 22(1), 1997.
use Rattle.std.specs.Prelude.{ℕ, Bool, false, ◌&&◌, ◌||◌, ◌==◌, List, [], Option, Some, None, Result, Err}
use Rattle.std.specs.List.{list_all, list_any}
use Rattle.values.specs.Faults.{◌>>=◌, wanted, wanted_if}
use Rattle.algebra.specs.declared.condition.Condition.{Condition, fold-Condition}
use Rattle.algebra.specs.declared.condition.Condition.TheOpen.{Condition-F}
use Rattle.algebra.specs.declared.condition.Term.{Term}
use Rattle.algebra.specs.declared.condition.Term.TheVariants as term
use Rattle.algebra.specs.declared.expr.Expr.{Expr}
use Rattle.algebra.specs.declared.expr.Expr.TheVariants as expr
use Rattle.algebra.specs.Columns.{ColumnSet, has, are_disjoint}
use Rattle.algebra.specs.ConjunctParts.{part, rest}
use Rattle.props.specs.Knowledge.{Knowledge}
use Rattle.props.specs.Outcomes.{never_true}
use Rattle.rules.specs.declared.pattern.Input.TheVariants.{First}
use Rattle.rules.specs.declared.pattern.Operator.TheVariants as operator
use Rattle.rules.specs.declared.pattern.Operators.TheVariants.{Only}
use Rattle.rules.specs.declared.pattern.Pattern as lines
use Rattle.rules.specs.declared.pattern.Pattern.TheVariants.{Three}
use Rattle.rules.specs.Patterns.{first}
use Rattle.rules.specs.declared.promise.Promise.{Promise}
use Rattle.rules.specs.declared.promise.Promise.TheVariants.{Simpler}
use Rattle.rules.specs.declared.shape.Shape.{Shape}
use Rattle.rules.specs.declared.shape.Shape.TheVariants.{Class, Anti, Keep}
use Rattle.rules.specs.declared.unfit.Unfit.{Unfit}
use Rattle.rules.specs.declared.unfit.Unfit.TheVariants.{Pattern, Condition as FailedCondition}
use Rattle.rules.specs.Bindings.{three_lines_over}
use Rattle.rules.specs.Conjuncts.{is_apart_from}
use Rattle.rules.specs.Matches.{Matched}
use Rattle.rules.specs.Shapes.{selected}

-- the lines that it takes
abbrev pub pattern : lines.Pattern
pattern = Three (Only operator.Keep) (first (Only operator.Select)) (first (Only operator.LeftJoin))

-- ---- conditions that ask for Null

abbrev pub column_of : Term → Option ℕ
column_of (term.Column c) = Some c
column_of (term.Literal v) = None

-- the column that a condition asks to be Null, if it is such a condition
abbrev pub null_column_layer : Condition-F (Option ℕ) → Option ℕ
null_column_layer (Condition-F.Compare op a b) = None
null_column_layer (Condition-F.IsNull a) = column_of a
null_column_layer (Condition-F.Not c) = None
null_column_layer (Condition-F.And a b cs) = None
null_column_layer (Condition-F.Or a b cs) = None
null_column_layer (Condition-F.Exists g) = None
null_column_layer (Condition-F.In a g k) = None

unfoldable pub null_column : Condition → Option ℕ
null_column = fold-Condition (Option ℕ) null_column_layer

abbrev pub is_in : ColumnSet → Option ℕ → Bool
is_in p None = false
is_in p (Some c) = p c

abbrev pub asks_null : ColumnSet → Condition → Bool
asks_null p c = is_in p (null_column c)

-- ---- the rows that are found

-- no row of the class with which the conditions hold has Null in the column
abbrev pub is_filled : Knowledge → List Condition → ℕ → ColumnSet
is_filled K D b c = has (K.facts b).not_null c || never_true D (λ k. c == k)

-- each condition asks a column of the class to be Null, and one asks it of such a column
abbrev pub ask_for_pads : Knowledge → List Condition → List Condition → ℕ → Bool
ask_for_pads K N D b = list_all (asks_null (has (K.columns b))) N && list_any (asks_null (is_filled K D b)) N

abbrev pub are_unfound : Knowledge → List ℕ → List Condition → List Condition → ℕ → Bool
are_unfound K S C D b = are_disjoint S (K.columns b) && ask_for_pads K (rest (is_apart_from K b) C) D b

abbrev pub unfound : Knowledge → List ℕ → List Condition → List Condition → ℕ → ℕ → Result Shape Unfit
unfound K S C D a b = wanted_if FailedCondition (are_unfound K S C D b) (Keep S (selected (part (is_apart_from K b) C) (Anti D [] (Class a) (Class b))))

abbrev pub unfound_of : Knowledge → Expr → Expr → Expr → Result Shape Unfit
unfound_of K (expr.Keep S x) (expr.Select C y) (expr.LeftJoin D a b) = unfound K S C D a b
unfound_of K x y z = Err Pattern

abbrev pub outer_join_is_anti : Matched → Result Shape Unfit
outer_join_is_anti m = wanted Pattern (three_lines_over First First m) >>= λ l. unfound_of m.classes l.0 l.1 l.2

-- when it is tried
abbrev pub promise : Matched → Promise
promise m = Simpler
