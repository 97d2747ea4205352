-- A semijoin or an antijoin changes places with the inner join below it: which rows of the one side it keeps doesn't depend on the other.
-- Semijoins and antijoins reordered with joins: Moerkotte, Fender and Eich, On the correct and complete enumeration of the core search space, SIGMOD 2013.
use Rattle.std.specs.Prelude.{ℕ, Bool, ◌&&◌, List, ◌++◌, Result, Err}
use Rattle.std.specs.List.{list_all}
use Rattle.values.specs.Faults.{◌>>=◌, wanted, wanted_if}
use Rattle.algebra.specs.declared.condition.Condition.{Condition}
use Rattle.algebra.specs.declared.expr.Expr.{Expr}
use Rattle.algebra.specs.declared.expr.Expr.TheVariants as expr
use Rattle.props.specs.Knowledge.{Knowledge}
use Rattle.rules.specs.declared.pattern.Operator.TheVariants as operator
use Rattle.rules.specs.declared.pattern.Operators.TheVariants.{Only, Either}
use Rattle.rules.specs.declared.pattern.Pattern as lines
use Rattle.rules.specs.declared.pattern.Pattern.TheVariants.{Two}
use Rattle.rules.specs.Patterns.{first}
use Rattle.rules.specs.declared.promise.Promise.{Promise}
use Rattle.rules.specs.declared.promise.Promise.TheVariants.{Connected}
use Rattle.rules.specs.declared.shape.Shape.{Shape}
use Rattle.rules.specs.declared.shape.Shape.TheVariants.{Class, Join, Semi, Anti}
use Rattle.rules.specs.declared.unfit.Unfit.{Unfit}
use Rattle.rules.specs.declared.unfit.Unfit.TheVariants.{Pattern, Condition as FailedCondition}
use Rattle.rules.specs.Conjuncts.{is_apart_from}
use Rattle.rules.specs.Matches.{Matched, two_lines}

-- the lines that it takes
abbrev pub pattern : lines.Pattern
pattern = Two (Either operator.Semi operator.Anti) (first (Only operator.Join))

-- the upper conditions don't mention the side that is joined above them then, nor the inner join's the other right side
abbrev pub change_places : Knowledge → List Condition → List Condition → ℕ → ℕ → Bool
change_places K C D b z = list_all (is_apart_from K b) D && list_all (is_apart_from K z) C

abbrev pub semi_below : Knowledge → List Condition → List Condition → ℕ → ℕ → ℕ → Result Shape Unfit
semi_below K C D a b z = wanted_if FailedCondition (change_places K C D b z) (Join C (Semi D (Class a) (Class z)) (Class b))

-- the same of both lists of an antijoin
abbrev pub anti_below : Knowledge → List Condition → List Condition → List Condition → ℕ → ℕ → ℕ → Result Shape Unfit
anti_below K C N M a b z = wanted_if FailedCondition (change_places K C (N ++ M) b z) (Join C (Anti N M (Class a) (Class z)) (Class b))

abbrev pub lowered : Knowledge → Expr → Expr → Result Shape Unfit
lowered K (expr.Semi D x z) (expr.Join C a b) = semi_below K C D a b z
lowered K (expr.Anti N M x z) (expr.Join C a b) = anti_below K C N M a b z
lowered K x y = Err Pattern

abbrev pub semijoin_below_join : Matched → Result Shape Unfit
semijoin_below_join m = wanted Pattern (two_lines m) >>= λ l. lowered m.classes l.0 l.1

-- when it is tried
abbrev pub promise : Matched → Promise
promise m = Connected
