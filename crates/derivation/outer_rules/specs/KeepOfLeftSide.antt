-- A projection without the right side's columns of an outer join has a row for each left row, if none finds two.
use Rattle.std.specs.Prelude.{ℕ, Bool, ◌&&◌, List, Result, Err}
use Rattle.values.specs.Faults.{◌>>=◌, wanted, wanted_if}
use Rattle.algebra.specs.declared.condition.Condition.{Condition}
use Rattle.algebra.specs.declared.expr.Expr.{Expr}
use Rattle.algebra.specs.declared.expr.Expr.TheVariants as expr
use Rattle.algebra.specs.Columns.{are_disjoint}
use Rattle.props.specs.Given.{is_single}
use Rattle.props.specs.Knowledge.{Knowledge}
use Rattle.rules.specs.declared.pattern.Operator.TheVariants as operator
use Rattle.rules.specs.declared.pattern.Operators.TheVariants.{Only}
use Rattle.rules.specs.declared.pattern.Pattern as lines
use Rattle.rules.specs.declared.pattern.Pattern.TheVariants.{Two}
use Rattle.rules.specs.Patterns.{first}
use Rattle.rules.specs.declared.promise.Promise.{Promise}
use Rattle.rules.specs.declared.promise.Promise.TheVariants.{Simpler}
use Rattle.rules.specs.declared.shape.Shape.{Shape}
use Rattle.rules.specs.declared.shape.Shape.TheVariants.{Class, Keep}
use Rattle.rules.specs.declared.unfit.Unfit.{Unfit}
use Rattle.rules.specs.declared.unfit.Unfit.TheVariants.{Pattern, Condition as FailedCondition}
use Rattle.rules.specs.Matches.{Matched, two_lines}

-- the lines that it takes
abbrev pub pattern : lines.Pattern
pattern = Two (Only operator.Keep) (first (Only operator.LeftJoin))

-- no column of the class is kept, and no row finds two of its rows with which the conditions hold
abbrev pub is_unread : Knowledge → List ℕ → List Condition → ℕ → Bool
is_unread K S D b = are_disjoint S (K.columns b) && is_single K b D

abbrev pub kept : Knowledge → List ℕ → List Condition → ℕ → ℕ → Result Shape Unfit
kept K S D a b = wanted_if FailedCondition (is_unread K S D b) (Keep S (Class a))

abbrev pub kept_of_left : Knowledge → Expr → Expr → Result Shape Unfit
kept_of_left K (expr.Keep S x) (expr.LeftJoin D a b) = kept K S D a b
kept_of_left K x y = Err Pattern

abbrev pub keep_of_left_side : Matched → Result Shape Unfit
keep_of_left_side m = wanted Pattern (two_lines m) >>= λ l. kept_of_left m.classes l.0 l.1

-- when it is tried
abbrev pub promise : Matched → Promise
promise m = Simpler
