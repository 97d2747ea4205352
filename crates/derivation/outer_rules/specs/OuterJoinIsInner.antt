-- An outer join whose padded rows a selection rejects is an inner join.
use Rattle.std.specs.Prelude.{ℕ, Bool, List, Result, Err}
use Rattle.values.specs.Faults.{◌>>=◌, wanted, wanted_if}
use Rattle.algebra.specs.declared.condition.Condition.{Condition}
use Rattle.algebra.specs.declared.expr.Expr.{Expr}
use Rattle.algebra.specs.declared.expr.Expr.TheVariants as expr
use Rattle.algebra.specs.Columns.{has}
use Rattle.props.specs.Knowledge.{Knowledge}
use Rattle.props.specs.Outcomes.{never_true}
use Rattle.rules.specs.declared.pattern.Operator.TheVariants as operator
use Rattle.rules.specs.declared.pattern.Operators.TheVariants.{Only}
use Rattle.rules.specs.declared.pattern.Pattern as lines
use Rattle.rules.specs.declared.pattern.Pattern.TheVariants.{Two}
use Rattle.rules.specs.Patterns.{first}
use Rattle.rules.specs.declared.promise.Promise.{Promise}
use Rattle.rules.specs.declared.promise.Promise.TheVariants.{Simpler}
use Rattle.rules.specs.declared.shape.Shape.{Shape}
use Rattle.rules.specs.declared.shape.Shape.TheVariants.{Class, Select, Join}
use Rattle.rules.specs.declared.unfit.Unfit.{Unfit}
use Rattle.rules.specs.declared.unfit.Unfit.TheVariants.{Pattern, Condition as FailedCondition}
use Rattle.rules.specs.Matches.{Matched, two_lines}

-- the lines that it takes
abbrev pub pattern : lines.Pattern
pattern = Two (Only operator.Select) (first (Only operator.LeftJoin))

-- the conditions don't all hold where the columns of the class are Null
abbrev pub reject_nulls : Knowledge → List Condition → ℕ → Bool
reject_nulls K C b = never_true C (has (K.columns b))

abbrev pub joined : Knowledge → List Condition → List Condition → ℕ → ℕ → Result Shape Unfit
joined K C D a b = wanted_if FailedCondition (reject_nulls K C b) (Select C (Join D (Class a) (Class b)))

abbrev pub inner : Knowledge → Expr → Expr → Result Shape Unfit
inner K (expr.Select C x) (expr.LeftJoin D a b) = joined K C D a b
inner K x y = Err Pattern

abbrev pub outer_join_is_inner : Matched → Result Shape Unfit
outer_join_is_inner m = wanted Pattern (two_lines m) >>= λ l. inner m.classes l.0 l.1

-- when it is tried
abbrev pub promise : Matched → Promise
promise m = Simpler
