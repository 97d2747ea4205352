-- An inner join changes places with the outer join of its left side: the rows of the outer join's right side are found last.
-- Galindo-Legaria and Rosenthal, Outerjoin simplification and reordering for query optimization, ACM TODS 22(1), 1997.
use Rattle.std.specs.Prelude.{ℕ, List, Result, Err}
use Rattle.values.specs.Faults.{◌>>=◌, wanted, wanted_if}
use Rattle.algebra.specs.declared.condition.Condition.{Condition}
use Rattle.algebra.specs.declared.expr.Expr.{Expr}
use Rattle.algebra.specs.declared.expr.Expr.TheVariants as expr
use Rattle.props.specs.Knowledge.{Knowledge}
use Rattle.rules.specs.declared.pattern.Operator.TheVariants as operator
use Rattle.rules.specs.declared.pattern.Operators.TheVariants.{Only}
use Rattle.rules.specs.declared.pattern.Pattern as lines
use Rattle.rules.specs.declared.pattern.Pattern.TheVariants.{Two}
use Rattle.rules.specs.Patterns.{first}
use Rattle.rules.specs.declared.promise.Promise.{Promise}
use Rattle.rules.specs.declared.promise.Promise.TheVariants.{Connected}
use Rattle.rules.specs.declared.shape.Shape.{Shape}
use Rattle.rules.specs.declared.shape.Shape.TheVariants.{Class, Join, LeftJoin}
use Rattle.rules.specs.declared.unfit.Unfit.{Unfit}
use Rattle.rules.specs.declared.unfit.Unfit.TheVariants.{Pattern, Condition as FailedCondition}
use Rattle.rules.specs.Matches.{Matched, two_lines}
use Rattle.outer_rules.specs.LeftJoinBelowJoin.{change_places}

-- the lines that it takes
abbrev pub pattern : lines.Pattern
pattern = Two (Only operator.Join) (first (Only operator.LeftJoin))

abbrev pub lifted : Knowledge → List Condition → List Condition → ℕ → ℕ → ℕ → Result Shape Unfit
lifted K C D a b z = wanted_if FailedCondition (change_places K C D b z) (LeftJoin D (Join C (Class a) (Class b)) (Class z))

abbrev pub lifted_above : Knowledge → Expr → Expr → Result Shape Unfit
lifted_above K (expr.Join C x b) (expr.LeftJoin D a z) = lifted K C D a b z
lifted_above K x y = Err Pattern

abbrev pub left_join_above_join : Matched → Result Shape Unfit
left_join_above_join m = wanted Pattern (two_lines m) >>= λ l. lifted_above m.classes l.0 l.1

-- when it is tried
abbrev pub promise : Matched → Promise
promise m = Connected
