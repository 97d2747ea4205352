-- A selection from a semijoin or an antijoin goes below it, to the left side.
use Rattle.std.specs.Prelude.{Result, Ok, Err}
use Rattle.values.specs.Faults.{◌>>=◌, wanted}
use Rattle.algebra.specs.declared.expr.Expr.{Expr}
use Rattle.algebra.specs.declared.expr.Expr.TheVariants as expr
use Rattle.props.specs.Knowledge.{Knowledge}
use Rattle.rules.specs.declared.pattern.Operator.TheVariants as operator
use Rattle.rules.specs.declared.pattern.Operators.TheVariants.{Only, Either}
use Rattle.rules.specs.declared.pattern.Pattern as lines
use Rattle.rules.specs.declared.pattern.Pattern.TheVariants.{Two}
use Rattle.rules.specs.Patterns.{first}
use Rattle.rules.specs.declared.promise.Promise.{Promise}
use Rattle.rules.specs.declared.promise.Promise.TheVariants.{Connected}
use Rattle.rules.specs.declared.shape.Shape.{Shape}
use Rattle.rules.specs.declared.shape.Shape.TheVariants.{Class, Select, Semi, Anti}
use Rattle.rules.specs.declared.unfit.Unfit.{Unfit}
use Rattle.rules.specs.declared.unfit.Unfit.TheVariants.{Pattern}
use Rattle.rules.specs.Matches.{Matched, two_lines}

-- the lines that it takes
abbrev pub pattern : lines.Pattern
pattern = Two (Only operator.Select) (first (Either operator.Semi operator.Anti))

abbrev pub below_semi : Knowledge → Expr → Expr → Result Shape Unfit
below_semi K (expr.Select C x) (expr.Semi D a b) = Ok (Semi D (Select C (Class a)) (Class b))
below_semi K (expr.Select C x) (expr.Anti S M a b) = Ok (Anti S M (Select C (Class a)) (Class b))
below_semi K x y = Err Pattern

abbrev pub select_below_semi : Matched → Result Shape Unfit
select_below_semi m = wanted Pattern (two_lines m) >>= λ l. below_semi m.classes l.0 l.1

-- when it is tried
abbrev pub promise : Matched → Promise
promise m = Connected
