-- A semijoin whose left rows find one row each at most is the join of the two sides, without the right side's columns.
-- Subqueries that find one row at most as joins: Pirahesh, Hellerstein and Hasan, Extensible/rule based query rewrite optimization in Starburst, SIGMOD 1992.
use Rattle.std.specs.Prelude.{ℕ, List, Result, Err}
use Rattle.values.specs.Faults.{◌>>=◌, wanted, wanted_if}
use Rattle.algebra.specs.declared.condition.Condition.{Condition}
use Rattle.algebra.specs.declared.expr.Expr.{Expr}
use Rattle.algebra.specs.declared.expr.Expr.TheVariants as expr
use Rattle.props.specs.Given.{is_single}
use Rattle.props.specs.Knowledge.{Knowledge}
use Rattle.rules.specs.declared.pattern.Operator.TheVariants as operator
use Rattle.rules.specs.declared.pattern.Operators.TheVariants.{Only}
use Rattle.rules.specs.declared.pattern.Pattern as lines
use Rattle.rules.specs.declared.pattern.Pattern.TheVariants.{One}
use Rattle.rules.specs.declared.promise.Promise.{Promise}
use Rattle.rules.specs.declared.promise.Promise.TheVariants.{Connected}
use Rattle.rules.specs.declared.shape.Shape.{Shape}
use Rattle.rules.specs.declared.shape.Shape.TheVariants.{Class, Join, Keep}
use Rattle.rules.specs.declared.unfit.Unfit.{Unfit}
use Rattle.rules.specs.declared.unfit.Unfit.TheVariants.{Pattern, Condition as FailedCondition}
use Rattle.rules.specs.Matches.{Matched, one_line}

-- the lines that it takes
abbrev pub pattern : lines.Pattern
pattern = One (Only operator.Semi)

-- where no row finds two rows of the right side with which the conditions hold
abbrev pub joined : Knowledge → List Condition → ℕ → ℕ → Result Shape Unfit
joined K D a b = wanted_if FailedCondition (is_single K b D) (Keep (K.columns a) (Join D (Class a) (Class b)))

abbrev pub joined_of : Knowledge → Expr → Result Shape Unfit
joined_of K (expr.Semi D a b) = joined K D a b
joined_of K x = Err Pattern

abbrev pub semijoin_is_join : Matched → Result Shape Unfit
semijoin_is_join m = wanted Pattern (one_line m) >>= joined_of m.classes

-- when it is tried
abbrev pub promise : Matched → Promise
promise m = Connected
