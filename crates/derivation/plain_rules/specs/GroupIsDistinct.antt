-- GROUP BY without aggregates: the groups' rows are the different keys.
use Rattle.std.specs.Prelude.{ℕ, List, [], ◌∷◌, Result, Ok, Err}
use Rattle.values.specs.Faults.{◌>>=◌, wanted}
use Rattle.algebra.specs.declared.expr.Expr.{Expr}
use Rattle.algebra.specs.declared.expr.Expr.TheVariants as expr
use Rattle.props.specs.Knowledge.{Knowledge}
use Rattle.rules.specs.declared.pattern.Operator.TheVariants as operator
use Rattle.rules.specs.declared.pattern.Operators.TheVariants.{Only}
use Rattle.rules.specs.declared.pattern.Pattern as lines
use Rattle.rules.specs.declared.pattern.Pattern.TheVariants.{One}
use Rattle.rules.specs.declared.promise.Promise.{Promise}
use Rattle.rules.specs.declared.promise.Promise.TheVariants.{Simpler}
use Rattle.rules.specs.declared.shape.Shape.{Shape}
use Rattle.rules.specs.declared.shape.Shape.TheVariants.{Class, Keep, Distinct}
use Rattle.rules.specs.declared.unfit.Unfit.{Unfit}
use Rattle.rules.specs.declared.unfit.Unfit.TheVariants.{Pattern, Condition}
use Rattle.rules.specs.Matches.{Matched, one_line}

-- the lines that it takes
abbrev pub pattern : lines.Pattern
pattern = One (Only operator.Group)

-- the different keys of a class; without keys there is one group, also of no rows
abbrev pub different_keys : List ℕ → ℕ → Result Shape Unfit
different_keys [] x = Err Condition
different_keys (k ∷ L) x = Ok (Distinct (Keep (k ∷ L) (Class x)))

abbrev pub as_distinct : Knowledge → Expr → Result Shape Unfit
as_distinct K (expr.Group L [] x) = different_keys L x
as_distinct K x = Err Pattern

abbrev pub group_is_distinct : Matched → Result Shape Unfit
group_is_distinct m = wanted Pattern (one_line m) >>= as_distinct m.classes

-- when it is tried
abbrev pub promise : Matched → Promise
promise m = Simpler
