-- Where a selection or a projection has a row, so has what it is made of.
use Rattle.std.specs.Prelude.{ℕ, Bool, [], ◌∷◌, Result, Err}
use Rattle.values.specs.Faults.{◌>>=◌, wanted, wanted_if}
use Rattle.algebra.specs.declared.condition.Condition.TheVariants.{Exists}
use Rattle.algebra.specs.declared.expr.Expr.{Expr}
use Rattle.algebra.specs.declared.expr.Expr.TheVariants as expr
use Rattle.algebra.specs.ConditionEquality.{same_condition}
use Rattle.algebra.specs.ConjunctOrder.{conjuncts}
use Rattle.algebra.specs.ConjunctParts.{union}
use Rattle.props.specs.Knowledge.{Knowledge}
use Rattle.rules.specs.declared.pattern.Operator.TheVariants as operator
use Rattle.rules.specs.declared.pattern.Operators.TheVariants.{Either}
use Rattle.rules.specs.declared.pattern.Pattern as lines
use Rattle.rules.specs.declared.pattern.Pattern.TheVariants.{SubqueryLine}
use Rattle.rules.specs.declared.promise.Promise.{Promise}
use Rattle.rules.specs.declared.promise.Promise.TheVariants.{Connected}
use Rattle.rules.specs.declared.shape.Shape.{Shape}
use Rattle.rules.specs.declared.shape.Shape.TheVariants.{Class, Select}
use Rattle.rules.specs.declared.unfit.Unfit.{Unfit}
use Rattle.rules.specs.declared.unfit.Unfit.TheVariants.{Pattern}
use Rattle.rules.specs.Bindings.{SubqueryPick, subquery_line}
use Rattle.rules.specs.Matches.{Matched}

-- the lines that it takes
abbrev pub pattern : lines.Pattern
pattern = SubqueryLine (Either operator.Select operator.Keep)

abbrev pub is_exists : SubqueryPick → Bool
is_exists p = same_condition p.condition (Exists p.class)

-- where what is picked is EXISTS, EXISTS of the class too
abbrev pub exists_too : SubqueryPick → ℕ → Result Shape Unfit
exists_too p y = wanted_if Pattern (is_exists p) (Select (union p.conjuncts (conjuncts (Exists y ∷ []))) (Class p.input))

abbrev pub with_input : Knowledge → SubqueryPick → Expr → Result Shape Unfit
with_input K p (expr.Select D y) = exists_too p y
with_input K p (expr.Keep L y) = exists_too p y
with_input K p x = Err Pattern

abbrev pub input_exists : Matched → Result Shape Unfit
input_exists m = wanted Pattern (subquery_line m) >>= λ p. with_input m.classes p.0 p.1

-- when it is tried
abbrev pub promise : Matched → Promise
promise m = Connected
