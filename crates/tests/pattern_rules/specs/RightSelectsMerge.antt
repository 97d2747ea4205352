-- On the right side of a join two selections are one.
use Rattle.std.specs.Prelude.{Result, Ok, Err}
use Rattle.values.specs.Faults.{◌>>=◌, wanted}
use Rattle.algebra.specs.declared.expr.Expr.{Expr}
use Rattle.algebra.specs.declared.expr.Expr.TheVariants as expr
use Rattle.algebra.specs.ConjunctParts.{union}
use Rattle.props.specs.Knowledge.{Knowledge}
use Rattle.rules.specs.declared.pattern.Input.TheVariants.{First, Second}
use Rattle.rules.specs.declared.pattern.Operator.TheVariants as operator
use Rattle.rules.specs.declared.pattern.Operators.TheVariants.{Only}
use Rattle.rules.specs.declared.pattern.Pattern as lines
use Rattle.rules.specs.declared.pattern.Pattern.TheVariants.{Three}
use Rattle.rules.specs.declared.promise.Promise.{Promise}
use Rattle.rules.specs.declared.promise.Promise.TheVariants.{Simpler}
use Rattle.rules.specs.declared.shape.Shape.{Shape}
use Rattle.rules.specs.declared.shape.Shape.TheVariants.{Class, Select, Join}
use Rattle.rules.specs.declared.unfit.Unfit.{Unfit}
use Rattle.rules.specs.declared.unfit.Unfit.TheVariants.{Pattern}
use Rattle.rules.specs.Bindings.{three_lines_over}
use Rattle.rules.specs.Matches.{Matched}

-- the lines that it takes
abbrev pub pattern : lines.Pattern
pattern = Three (Only operator.Join) (record { input = Second; operators = Only operator.Select }) (record { input = First; operators = Only operator.Select })

abbrev pub merged : Knowledge → Expr → Expr → Expr → Result Shape Unfit
merged K (expr.Join E a b) (expr.Select C x) (expr.Select D y) = Ok (Join E (Class a) (Select (union C D) (Class y)))
merged K x y z = Err Pattern

abbrev pub right_selects_merge : Matched → Result Shape Unfit
right_selects_merge m = wanted Pattern (three_lines_over Second First m) >>= λ l. merged m.classes l.0 l.1 l.2

-- when it is tried
abbrev pub promise : Matched → Promise
promise m = Simpler
