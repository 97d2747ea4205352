-- Projection pushdown: of a join's left side only those columns are kept that the projection keeps or the condition reads.
use Rattle.std.specs.Prelude.{ℕ, not, ◌||◌, List, filter, Result, Err}
use Rattle.values.specs.Faults.{◌>>=◌, wanted, wanted_if}
use Rattle.algebra.specs.declared.condition.Condition.{Condition}
use Rattle.algebra.specs.declared.expr.Expr.{Expr}
use Rattle.algebra.specs.declared.expr.Expr.TheVariants as expr
use Rattle.algebra.specs.Columns.{has, rising, is_same_set}
use Rattle.algebra.specs.Expressions.{mentioned}
use Rattle.props.specs.Knowledge.{Knowledge}
use Rattle.rules.specs.declared.pattern.Operator.TheVariants as operator
use Rattle.rules.specs.declared.pattern.Operators.TheVariants.{Only}
use Rattle.rules.specs.declared.pattern.Pattern as lines
use Rattle.rules.specs.declared.pattern.Pattern.TheVariants.{Two}
use Rattle.rules.specs.Patterns.{first}
use Rattle.rules.specs.declared.promise.Promise.{Promise}
use Rattle.rules.specs.declared.promise.Promise.TheVariants.{Projections}
use Rattle.rules.specs.declared.shape.Shape.{Shape}
use Rattle.rules.specs.declared.shape.Shape.TheVariants.{Class, Join, Keep}
use Rattle.rules.specs.declared.unfit.Unfit.{Unfit}
use Rattle.rules.specs.declared.unfit.Unfit.TheVariants.{Pattern, Condition as FailedCondition}
use Rattle.rules.specs.Matches.{Matched, two_lines}

-- the lines that it takes
abbrev pub pattern : lines.Pattern
pattern = Two (Only operator.Keep) (first (Only operator.Join))

-- the columns of a class that are kept or that the condition reads
abbrev pub needed : Knowledge → List ℕ → List Condition → ℕ → List ℕ
needed K L D a = rising (filter (λ c. has L c || mentioned K.columns K.free D c) (K.columns a))

abbrev pub narrowed : Knowledge → List ℕ → List Condition → ℕ → ℕ → Result Shape Unfit
narrowed K L D a b = wanted_if FailedCondition (not (is_same_set (needed K L D a) (K.columns a))) (Keep L (Join D (Keep (needed K L D a) (Class a)) (Class b)))

abbrev pub narrowed_below : Knowledge → Expr → Expr → Result Shape Unfit
narrowed_below K (expr.Keep L x) (expr.Join D a b) = narrowed K L D a b
narrowed_below K x y = Err Pattern

abbrev pub keep_below_join : Matched → Result Shape Unfit
keep_below_join m = wanted Pattern (two_lines m) >>= λ l. narrowed_below m.classes l.0 l.1

-- when it is tried
abbrev pub promise : Matched → Promise
promise m = Projections
