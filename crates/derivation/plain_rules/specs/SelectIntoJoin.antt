-- A selection from a join goes into the join's condition, but for its subqueries.
use Rattle.std.specs.Prelude.{ℕ, List, Result, Ok, Err}
use Rattle.values.specs.Faults.{◌>>=◌, wanted}
use Rattle.algebra.specs.declared.condition.Condition.{Condition}
use Rattle.algebra.specs.declared.expr.Expr.{Expr}
use Rattle.algebra.specs.declared.expr.Expr.TheVariants as expr
use Rattle.algebra.specs.ConjunctParts.{union, part, rest, has_no_class}
use Rattle.props.specs.Knowledge.{Knowledge}
use Rattle.rules.specs.declared.pattern.Operator.TheVariants as operator
use Rattle.rules.specs.declared.pattern.Operators.TheVariants.{Only}
use Rattle.rules.specs.declared.pattern.Pattern as lines
use Rattle.rules.specs.declared.pattern.Pattern.TheVariants.{Two}
use Rattle.rules.specs.Patterns.{first}
use Rattle.rules.specs.declared.promise.Promise.{Promise}
use Rattle.rules.specs.declared.promise.Promise.TheVariants.{Connected}
use Rattle.rules.specs.declared.shape.Shape.{Shape}
use Rattle.rules.specs.declared.shape.Shape.TheVariants.{Class, Join}
use Rattle.rules.specs.declared.unfit.Unfit.{Unfit}
use Rattle.rules.specs.declared.unfit.Unfit.TheVariants.{Pattern}
use Rattle.rules.specs.Conjuncts.{wanted_some}
use Rattle.rules.specs.Matches.{Matched, two_lines}
use Rattle.rules.specs.Shapes.{selected}

-- the lines that it takes
abbrev pub pattern : lines.Pattern
pattern = Two (Only operator.Select) (first (Only operator.Join))

abbrev pub absorbed : List Condition → List Condition → ℕ → ℕ → Result Shape Unfit
absorbed C D a b = wanted_some (part has_no_class C) >>= λ P. Ok (selected (rest has_no_class C) (Join (union D P) (Class a) (Class b)))

abbrev pub into_join : Knowledge → Expr → Expr → Result Shape Unfit
into_join K (expr.Select C x) (expr.Join D a b) = absorbed C D a b
into_join K x y = Err Pattern

abbrev pub select_into_join : Matched → Result Shape Unfit
select_into_join m = wanted Pattern (two_lines m) >>= λ l. into_join m.classes l.0 l.1

-- when it is tried
abbrev pub promise : Matched → Promise
promise m = Connected
