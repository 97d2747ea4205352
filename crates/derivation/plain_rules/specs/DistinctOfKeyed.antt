-- Redundant DISTINCT: rows of which no two agree on a key stand once already.
use Rattle.std.specs.Prelude.{Result, Err}
use Rattle.values.specs.Faults.{◌>>=◌, wanted, wanted_if}
use Rattle.algebra.specs.declared.expr.Expr.{Expr}
use Rattle.algebra.specs.declared.expr.Expr.TheVariants as expr
use Rattle.props.specs.Knowledge.{Knowledge, has_strong_key}
use Rattle.rules.specs.declared.pattern.Operator.TheVariants as operator
use Rattle.rules.specs.declared.pattern.Operators.TheVariants.{Only}
use Rattle.rules.specs.declared.pattern.Pattern as lines
use Rattle.rules.specs.declared.pattern.Pattern.TheVariants.{One}
use Rattle.rules.specs.declared.promise.Promise.{Promise}
use Rattle.rules.specs.declared.promise.Promise.TheVariants.{Simpler}
use Rattle.rules.specs.declared.shape.Shape.{Shape}
use Rattle.rules.specs.declared.shape.Shape.TheVariants.{Class}
use Rattle.rules.specs.declared.unfit.Unfit.{Unfit}
use Rattle.rules.specs.declared.unfit.Unfit.TheVariants.{Pattern, Condition}
use Rattle.rules.specs.Matches.{Matched, one_line}

-- the lines that it takes
abbrev pub pattern : lines.Pattern
pattern = One (Only operator.Distinct)

abbrev pub dropped : Knowledge → Expr → Result Shape Unfit
dropped K (expr.Distinct x) = wanted_if Condition (has_strong_key K x) (Class x)
dropped K x = Err Pattern

abbrev pub distinct_of_keyed : Matched → Result Shape Unfit
distinct_of_keyed m = wanted Pattern (one_line m) >>= dropped m.classes

-- when it is tried
abbrev pub promise : Matched → Promise
promise m = Simpler
