-- EXISTS and IN of a projection, or of distinct rows, are of their input: whether there is a row, and which values a column has, is the same of both.
use Rattle.std.specs.Prelude.{ℕ, Result, Ok, Err}
use Rattle.values.specs.Faults.{◌>>=◌, wanted, wanted_if}
use Rattle.algebra.specs.declared.expr.Expr.{Expr}
use Rattle.algebra.specs.declared.expr.Expr.TheVariants as expr
use Rattle.algebra.specs.Columns.{has}
use Rattle.props.specs.Knowledge.{Knowledge}
use Rattle.rules.specs.declared.pattern.Operator.TheVariants as operator
use Rattle.rules.specs.declared.pattern.Operators.TheVariants.{Either}
use Rattle.rules.specs.declared.pattern.Pattern as lines
use Rattle.rules.specs.declared.pattern.Pattern.TheVariants.{ClassLine}
use Rattle.rules.specs.declared.promise.Promise.{Promise}
use Rattle.rules.specs.declared.promise.Promise.TheVariants.{Simpler}
use Rattle.rules.specs.declared.shape.Shape.{Shape}
use Rattle.rules.specs.declared.shape.Shape.TheVariants.{Class, Select}
use Rattle.rules.specs.declared.unfit.Unfit.{Unfit}
use Rattle.rules.specs.declared.unfit.Unfit.TheVariants.{Pattern, Condition as FailedCondition}
use Rattle.rules.specs.Bindings.{ClassPick, class_line}
use Rattle.rules.specs.Matches.{Matched}
use Rattle.subquery_rules.specs.Replacing.{replaced, all_ask}

-- the lines that it takes
abbrev pub pattern : lines.Pattern
pattern = ClassLine (Either operator.Keep operator.Distinct)

-- the selection with the input in place of the class
abbrev pub selection_of : ClassPick → ℕ → Shape
selection_of p input = Select (replaced p.class input p.conjuncts) (Class p.input)

-- a projection must keep the columns that are asked for: of a column that it drops the row of the selection is read
abbrev pub rewrite : Knowledge → ClassPick → Expr → Result Shape Unfit
rewrite K p (expr.Keep L y) = wanted_if FailedCondition (all_ask p.class p.conjuncts (has L)) (selection_of p y)
rewrite K p (expr.Distinct y) = Ok (selection_of p y)
rewrite K p y = Err Pattern

abbrev pub subquery_of_input : Matched → Result Shape Unfit
subquery_of_input m = wanted Pattern (class_line m) >>= λ p. rewrite m.classes p.0 p.1

-- when it is tried
abbrev pub promise : Matched → Promise
promise m = Simpler
