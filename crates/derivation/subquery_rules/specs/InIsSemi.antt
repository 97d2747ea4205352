-- IN is a semijoin: the rows of the input for which the class has a row whose column is equal to the term.
use Rattle.std.specs.Prelude.{Result}
use Rattle.values.specs.Faults.{◌>>=◌, wanted}
use Rattle.rules.specs.declared.pattern.Pattern as lines
use Rattle.rules.specs.declared.pattern.Pattern.TheVariants.{Subquery}
use Rattle.rules.specs.declared.promise.Promise.{Promise}
use Rattle.rules.specs.declared.promise.Promise.TheVariants.{Simpler}
use Rattle.rules.specs.declared.shape.Shape.{Shape}
use Rattle.rules.specs.declared.unfit.Unfit.{Unfit}
use Rattle.rules.specs.declared.unfit.Unfit.TheVariants.{Pattern}
use Rattle.rules.specs.Bindings.{subquery}
use Rattle.rules.specs.Matches.{Matched}
use Rattle.subquery_rules.specs.Unnesting.{in_as_semi, alone}

-- the lines that it takes
abbrev pub pattern : lines.Pattern
pattern = Subquery

abbrev pub in_is_semi : Matched → Result Shape Unfit
in_is_semi m = wanted Pattern (subquery m) >>= alone in_as_semi m.classes

-- when it is tried
abbrev pub promise : Matched → Promise
promise m = Simpler
