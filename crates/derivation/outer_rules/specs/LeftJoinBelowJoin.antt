-- An outer join changes places with the inner join below it: each row of the one side finds its rows of the outer join's right side first.
-- Galindo-Legaria and Rosenthal, Outerjoin simplification and reordering for query optimization, ACM TODS 22(1), 1997.
use Rattle.std.specs.Prelude.{ℕ, Bool, ◌&&◌, List, Result, Err}
use Rattle.std.specs.List.{list_all}
use Rattle.values.specs.Faults.{◌>>=◌, wanted, wanted_if}
use Rattle.algebra.specs.declared.condition.Condition.{Condition}
use Rattle.algebra.specs.declared.expr.Expr.{Expr}
use Rattle.algebra.specs.declared.expr.Expr.TheVariants as expr
use Rattle.props.specs.Knowledge.{Knowledge}
use Rattle.rules.specs.declared.pattern.Operator.TheVariants as operator
use Rattle.rules.specs.declared.pattern.Operators.TheVariants.{Only}
use Rattle.rules.specs.declared.pattern.Pattern as lines
use Rattle.rules.specs.declared.pattern.Pattern.TheVariants.{Two}
use Rattle.rules.specs.Patterns.{first}
use Rattle.rules.specs.declared.promise.Promise.{Promise}
use Rattle.rules.specs.declared.promise.Promise.TheVariants.{Connected}
use Rattle.rules.specs.declared.shape.Shape.{Shape}
use Rattle.rules.specs.declared.shape.Shape.TheVariants.{Class, Join, LeftJoin}
use Rattle.rules.specs.declared.unfit.Unfit.{Unfit}
use Rattle.rules.specs.declared.unfit.Unfit.TheVariants.{Pattern, Condition as FailedCondition}
use Rattle.rules.specs.Conjuncts.{is_apart_from}
use Rattle.rules.specs.Matches.{Matched, two_lines}

-- the lines that it takes
abbrev pub pattern : lines.Pattern
pattern = Two (Only operator.LeftJoin) (first (Only operator.Join))

-- the outer join's condition doesn't mention the side that is joined above it then, nor the inner join's the outer join's right side
abbrev pub change_places : Knowledge → List Condition → List Condition → ℕ → ℕ → Bool
change_places K C D b z = list_all (is_apart_from K b) D && list_all (is_apart_from K z) C

abbrev pub lowered : Knowledge → List Condition → List Condition → ℕ → ℕ → ℕ → Result Shape Unfit
lowered K C D a b z = wanted_if FailedCondition (change_places K C D b z) (Join C (LeftJoin D (Class a) (Class z)) (Class b))

abbrev pub lowered_below : Knowledge → Expr → Expr → Result Shape Unfit
lowered_below K (expr.LeftJoin D x z) (expr.Join C a b) = lowered K C D a b z
lowered_below K x y = Err Pattern

abbrev pub left_join_below_join : Matched → Result Shape Unfit
left_join_below_join m = wanted Pattern (two_lines m) >>= λ l. lowered_below m.classes l.0 l.1

-- when it is tried
abbrev pub promise : Matched → Promise
promise m = Connected
