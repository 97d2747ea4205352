-- Of two projections the outer one counts.
use Rattle.std.specs.Prelude.{Result, Ok, Err}
use Rattle.values.specs.Faults.{◌>>=◌, wanted}
use Rattle.algebra.specs.declared.expr.Expr.{Expr}
use Rattle.algebra.specs.declared.expr.Expr.TheVariants as expr
use Rattle.props.specs.Knowledge.{Knowledge}
use Rattle.rules.specs.declared.pattern.Operator.TheVariants as operator
use Rattle.rules.specs.declared.pattern.Operators.TheVariants.{Only}
use Rattle.rules.specs.declared.pattern.Pattern as lines
use Rattle.rules.specs.declared.pattern.Pattern.TheVariants.{Two}
use Rattle.rules.specs.Patterns.{first}
use Rattle.rules.specs.declared.promise.Promise.{Promise}
use Rattle.rules.specs.declared.promise.Promise.TheVariants.{Simpler}
use Rattle.rules.specs.declared.shape.Shape.{Shape}
use Rattle.rules.specs.declared.shape.Shape.TheVariants.{Class, Keep}
use Rattle.rules.specs.declared.unfit.Unfit.{Unfit}
use Rattle.rules.specs.declared.unfit.Unfit.TheVariants.{Pattern}
use Rattle.rules.specs.Matches.{Matched, two_lines}

-- the lines that it takes
abbrev pub pattern : lines.Pattern
pattern = Two (Only operator.Keep) (first (Only operator.Keep))

abbrev pub merged : Knowledge → Expr → Expr → Result Shape Unfit
merged K (expr.Keep L x) (expr.Keep J y) = Ok (Keep L (Class y))
merged K x y = Err Pattern

abbrev pub keeps_merge : Matched → Result Shape Unfit
keeps_merge m = wanted Pattern (two_lines m) >>= λ l. merged m.classes l.0 l.1

-- when it is tried
abbrev pub promise : Matched → Promise
promise m = Simpler
