-- Predicate pushdown: of a selection from groups, the conjuncts about keys alone are asked of the rows before they are grouped.
use Rattle.std.specs.Prelude.{ℕ, Bool, ◌&&◌, List, [], ◌∷◌, Result, Ok, Err}
use Rattle.values.specs.Faults.{◌>>=◌, wanted}
use Rattle.algebra.specs.declared.condition.Condition.{Condition}
use Rattle.algebra.specs.declared.expr.Aggregation.{Aggregation}
use Rattle.algebra.specs.declared.expr.Expr.{Expr}
use Rattle.algebra.specs.declared.expr.Expr.TheVariants as expr
use Rattle.algebra.specs.Columns.{has}
use Rattle.algebra.specs.Conditions.{all_columns}
use Rattle.algebra.specs.ConjunctOrder.{conjuncts}
use Rattle.algebra.specs.ConjunctParts.{part, rest, has_no_class}
use Rattle.props.specs.Knowledge.{Knowledge}
use Rattle.rules.specs.declared.pattern.Operator.TheVariants as operator
use Rattle.rules.specs.declared.pattern.Operators.TheVariants.{Only}
use Rattle.rules.specs.declared.pattern.Pattern as lines
use Rattle.rules.specs.declared.pattern.Pattern.TheVariants.{Two}
use Rattle.rules.specs.Patterns.{first}
use Rattle.rules.specs.declared.promise.Promise.{Promise}
use Rattle.rules.specs.declared.promise.Promise.TheVariants.{Simpler}
use Rattle.rules.specs.declared.shape.Shape.{Shape}
use Rattle.rules.specs.declared.shape.Shape.TheVariants.{Class, Select, Group}
use Rattle.rules.specs.declared.unfit.Unfit.{Unfit}
use Rattle.rules.specs.declared.unfit.Unfit.TheVariants.{Pattern, Condition as FailedCondition}
use Rattle.rules.specs.Conjuncts.{wanted_some}
use Rattle.rules.specs.Matches.{Matched, two_lines}
use Rattle.rules.specs.Shapes.{selected}

-- the lines that it takes
abbrev pub pattern : lines.Pattern
pattern = Two (Only operator.Select) (first (Only operator.Group))

-- whether a condition has no subquery and names columns of the keys alone
abbrev pub is_of_keys : List ℕ → Condition → Bool
is_of_keys K c = has_no_class c && all_columns c (has K)

-- the conjuncts that do, and the others
abbrev pub of_keys : List ℕ → List Condition → List Condition
of_keys K C = conjuncts (part (is_of_keys K) C)

abbrev pub of_others : List ℕ → List Condition → List Condition
of_others K C = conjuncts (rest (is_of_keys K) C)

-- where there are keys; without keys there is one group, also of no rows
abbrev pub if_keyed : List ℕ → Shape → Result Shape Unfit
if_keyed [] s = Err FailedCondition
if_keyed (k ∷ K) s = Ok s

abbrev pub pushed : List Condition → List ℕ → List Aggregation → ℕ → Result Shape Unfit
pushed C K G x = wanted_some (of_keys K C) >>= λ P. if_keyed K (selected (of_others K C) (Group K G (Select P (Class x))))

abbrev pub pushed_below : Knowledge → Expr → Expr → Result Shape Unfit
pushed_below K (expr.Select C x) (expr.Group L G y) = pushed C L G y
pushed_below K x y = Err Pattern

abbrev pub select_below_group : Matched → Result Shape Unfit
select_below_group m = wanted Pattern (two_lines m) >>= λ l. pushed_below m.classes l.0 l.1

-- when it is tried
abbrev pub promise : Matched → Promise
promise m = Simpler
