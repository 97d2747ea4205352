-- On the right side of a join a selection without conjuncts changes nothing.
use Rattle.std.specs.Prelude.{[], Result, Ok, Err}
use Rattle.values.specs.Faults.{◌>>=◌, wanted}
use Rattle.algebra.specs.declared.expr.Expr.{Expr}
use Rattle.algebra.specs.declared.expr.Expr.TheVariants as expr
use Rattle.props.specs.Knowledge.{Knowledge}
use Rattle.rules.specs.declared.pattern.Input.TheVariants.{Second}
use Rattle.rules.specs.declared.pattern.Operator.TheVariants as operator
use Rattle.rules.specs.declared.pattern.Operators.TheVariants.{Only}
use Rattle.rules.specs.declared.pattern.Pattern as lines
use Rattle.rules.specs.declared.pattern.Pattern.TheVariants.{Two}
use Rattle.rules.specs.declared.promise.Promise.{Promise}
use Rattle.rules.specs.declared.promise.Promise.TheVariants.{Simpler}
use Rattle.rules.specs.declared.shape.Shape.{Shape}
use Rattle.rules.specs.declared.shape.Shape.TheVariants.{Class, Join}
use Rattle.rules.specs.declared.unfit.Unfit.{Unfit}
use Rattle.rules.specs.declared.unfit.Unfit.TheVariants.{Pattern}
use Rattle.rules.specs.Bindings.{two_lines_over}
use Rattle.rules.specs.Matches.{Matched}

-- the lines that it takes
abbrev pub pattern : lines.Pattern
pattern = Two (Only operator.Join) (record { input = Second; operators = Only operator.Select })

abbrev pub dropped : Knowledge → Expr → Expr → Result Shape Unfit
dropped K (expr.Join D a b) (expr.Select [] x) = Ok (Join D (Class a) (Class x))
dropped K x y = Err Pattern

abbrev pub right_select_of_none : Matched → Result Shape Unfit
right_select_of_none m = wanted Pattern (two_lines_over Second m) >>= λ l. dropped m.classes l.0 l.1

-- when it is tried
abbrev pub promise : Matched → Promise
promise m = Simpler
