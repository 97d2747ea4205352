-- NOT EXISTS of a selection is an antijoin by the selection's conditions: the rows of the input for which its input has none that they hold with.
use Rattle.std.specs.Prelude.{Result}
use Rattle.values.specs.Faults.{◌>>=◌, wanted}
use Rattle.rules.specs.declared.pattern.Operator.TheVariants as operator
use Rattle.rules.specs.declared.pattern.Operators.TheVariants.{Only}
use Rattle.rules.specs.declared.pattern.Pattern as lines
use Rattle.rules.specs.declared.pattern.Pattern.TheVariants.{SubqueryLine}
use Rattle.rules.specs.declared.promise.Promise.{Promise}
use Rattle.rules.specs.declared.promise.Promise.TheVariants.{Simpler}
use Rattle.rules.specs.declared.shape.Shape.{Shape}
use Rattle.rules.specs.declared.unfit.Unfit.{Unfit}
use Rattle.rules.specs.declared.unfit.Unfit.TheVariants.{Pattern}
use Rattle.rules.specs.Bindings.{subquery_line}
use Rattle.rules.specs.Matches.{Matched}
use Rattle.subquery_rules.specs.Unnesting.{not_exists_as_anti, of_select}

-- the lines that it takes
abbrev pub pattern : lines.Pattern
pattern = SubqueryLine (Only operator.Select)

abbrev pub not_exists_of_select_is_anti : Matched → Result Shape Unfit
not_exists_of_select_is_anti m = wanted Pattern (subquery_line m) >>= λ p. of_select not_exists_as_anti m.classes p.0 p.1

-- when it is tried
abbrev pub promise : Matched → Promise
promise m = Simpler
