-- Join commutativity: the sides of a join change places.
use Rattle.std.specs.Prelude.{List, [], ◌∷◌, Result, Ok, Err}
use Rattle.values.specs.Faults.{◌>>=◌, wanted}
use Rattle.algebra.specs.declared.expr.Expr.{Expr}
use Rattle.algebra.specs.declared.expr.Expr.TheVariants as expr
use Rattle.rules.specs.declared.pattern.Operator.TheVariants as operator
use Rattle.rules.specs.declared.pattern.Operators.TheVariants.{Only}
use Rattle.rules.specs.declared.pattern.Pattern as lines
use Rattle.rules.specs.declared.pattern.Pattern.TheVariants.{One}
use Rattle.rules.specs.declared.promise.Promise.{Promise}
use Rattle.rules.specs.declared.promise.Promise.TheVariants.{Connected, Products}
use Rattle.rules.specs.declared.shape.Shape.{Shape}
use Rattle.rules.specs.declared.shape.Shape.TheVariants.{Class, Join}
use Rattle.rules.specs.declared.unfit.Unfit.{Unfit}
use Rattle.rules.specs.declared.unfit.Unfit.TheVariants.{Pattern}
use Rattle.rules.specs.Matches.{Line, Matched, one_line}

-- the lines that it takes
abbrev pub pattern : lines.Pattern
pattern = One (Only operator.Join)

abbrev pub turned : Expr → Result Shape Unfit
turned (expr.Join C a b) = Ok (Join C (Class b) (Class a))
turned x = Err Pattern

abbrev pub join_commutes : Matched → Result Shape Unfit
join_commutes m = wanted Pattern (one_line m) >>= turned

-- when it is tried: a join without conditions is a product
abbrev pub promised : Expr → Promise
promised (expr.Join (c ∷ C) a b) = Connected
promised x = Products

abbrev pub promised_at : List Line → Promise
promised_at (l ∷ []) = promised l.expr
promised_at lines = Products

abbrev pub promise : Matched → Promise
promise m = promised_at m.lines
