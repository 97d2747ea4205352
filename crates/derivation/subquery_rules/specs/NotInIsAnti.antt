-- NOT IN is a null-aware antijoin: the rows of the input for which the class has no row whose column is equal to the term, or may be, since one of both is Null.
use Rattle.std.specs.Prelude.{Result}
use Rattle.values.specs.Faults.{◌>>=◌, wanted}
use Rattle.rules.specs.declared.pattern.Pattern as lines
use Rattle.rules.specs.declared.pattern.Pattern.TheVariants.{Subquery}
use Rattle.rules.specs.declared.promise.Promise.{Promise}
use Rattle.rules.specs.declared.promise.Promise.TheVariants.{Simpler}
use Rattle.rules.specs.declared.shape.Shape.{Shape}
use Rattle.rules.specs.declared.unfit.Unfit.{Unfit}
use Rattle.rules.specs.declared.unfit.Unfit.TheVariants.{Pattern}
use Rattle.rules.specs.Bindings.{subquery}
use Rattle.rules.specs.Matches.{Matched}
use Rattle.subquery_rules.specs.Unnesting.{not_in_as_anti, alone}

-- the lines that it takes
abbrev pub pattern : lines.Pattern
pattern = Subquery

abbrev pub not_in_is_anti : Matched → Result Shape Unfit
not_in_is_anti m = wanted Pattern (subquery m) >>= alone not_in_as_anti m.classes

-- when it is tried
abbrev pub promise : Matched → Promise
promise m = Simpler
