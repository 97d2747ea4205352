-- Predicate pushdown: of an outer join's condition, the conjuncts that don't mention the left side are asked of the right side alone.
use Rattle.std.specs.Prelude.{ℕ, List, Result, Ok, Err}
use Rattle.values.specs.Faults.{◌>>=◌, wanted}
use Rattle.algebra.specs.declared.condition.Condition.{Condition}
use Rattle.algebra.specs.declared.expr.Expr.{Expr}
use Rattle.algebra.specs.declared.expr.Expr.TheVariants as expr
use Rattle.algebra.specs.ConjunctParts.{part, rest}
use Rattle.props.specs.Knowledge.{Knowledge}
use Rattle.rules.specs.declared.pattern.Operator.TheVariants as operator
use Rattle.rules.specs.declared.pattern.Operators.TheVariants.{Only}
use Rattle.rules.specs.declared.pattern.Pattern as lines
use Rattle.rules.specs.declared.pattern.Pattern.TheVariants.{One}
use Rattle.rules.specs.declared.promise.Promise.{Promise}
use Rattle.rules.specs.declared.promise.Promise.TheVariants.{Simpler}
use Rattle.rules.specs.declared.shape.Shape.{Shape}
use Rattle.rules.specs.declared.shape.Shape.TheVariants.{Class, Select, LeftJoin}
use Rattle.rules.specs.declared.unfit.Unfit.{Unfit}
use Rattle.rules.specs.declared.unfit.Unfit.TheVariants.{Pattern}
use Rattle.rules.specs.Conjuncts.{is_apart_from, wanted_some}
use Rattle.rules.specs.Matches.{Matched, one_line}

-- the lines that it takes
abbrev pub pattern : lines.Pattern
pattern = One (Only operator.LeftJoin)

abbrev pub lowered : Knowledge → List Condition → ℕ → ℕ → Result Shape Unfit
lowered K D a b = wanted_some (part (is_apart_from K a) D) >>= λ P. Ok (LeftJoin (rest (is_apart_from K a) D) (Class a) (Select P (Class b)))

abbrev pub lowered_below : Knowledge → Expr → Result Shape Unfit
lowered_below K (expr.LeftJoin D a b) = lowered K D a b
lowered_below K x = Err Pattern

abbrev pub condition_below_left_join : Matched → Result Shape Unfit
condition_below_left_join m = wanted Pattern (one_line m) >>= lowered_below m.classes

-- when it is tried
abbrev pub promise : Matched → Promise
promise m = Simpler
