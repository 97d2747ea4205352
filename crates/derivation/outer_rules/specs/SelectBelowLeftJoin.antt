-- Predicate pushdown: of a selection from an outer join, the conjuncts that don't mention the right side are asked of the left side alone.
use Rattle.std.specs.Prelude.{ℕ, List, Result, Ok, Err}
use Rattle.values.specs.Faults.{◌>>=◌, wanted}
use Rattle.algebra.specs.declared.condition.Condition.{Condition}
use Rattle.algebra.specs.declared.expr.Expr.{Expr}
use Rattle.algebra.specs.declared.expr.Expr.TheVariants as expr
use Rattle.algebra.specs.ConjunctParts.{part, rest}
use Rattle.props.specs.Knowledge.{Knowledge}
use Rattle.rules.specs.declared.pattern.Operator.TheVariants as operator
use Rattle.rules.specs.declared.pattern.Operators.TheVariants.{Only}
use Rattle.rules.specs.declared.pattern.Pattern as lines
use Rattle.rules.specs.declared.pattern.Pattern.TheVariants.{Two}
use Rattle.rules.specs.Patterns.{first}
use Rattle.rules.specs.declared.promise.Promise.{Promise}
use Rattle.rules.specs.declared.promise.Promise.TheVariants.{Simpler}
use Rattle.rules.specs.declared.shape.Shape.{Shape}
use Rattle.rules.specs.declared.shape.Shape.TheVariants.{Class, Select, LeftJoin}
use Rattle.rules.specs.declared.unfit.Unfit.{Unfit}
use Rattle.rules.specs.declared.unfit.Unfit.TheVariants.{Pattern}
use Rattle.rules.specs.Conjuncts.{is_apart_from, wanted_some}
use Rattle.rules.specs.Matches.{Matched, two_lines}
use Rattle.rules.specs.Shapes.{selected}

-- the lines that it takes
abbrev pub pattern : lines.Pattern
pattern = Two (Only operator.Select) (first (Only operator.LeftJoin))

abbrev pub pushed : Knowledge → List Condition → List Condition → ℕ → ℕ → Result Shape Unfit
pushed K C D a b = wanted_some (part (is_apart_from K b) C) >>= λ P. Ok (selected (rest (is_apart_from K b) C) (LeftJoin D (Select P (Class a)) (Class b)))

abbrev pub pushed_below : Knowledge → Expr → Expr → Result Shape Unfit
pushed_below K (expr.Select C x) (expr.LeftJoin D a b) = pushed K C D a b
pushed_below K x y = Err Pattern

abbrev pub select_below_left_join : Matched → Result Shape Unfit
select_below_left_join m = wanted Pattern (two_lines m) >>= λ l. pushed_below m.classes l.0 l.1

-- when it is tried
abbrev pub promise : Matched → Promise
promise m = Simpler
