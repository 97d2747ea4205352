-- Join associativity: of three sides the last two are joined first. Each conjunct that doesn't mention the first side is asked there.
use Rattle.std.specs.Prelude.{ℕ, ◌||◌, List, [], ◌∷◌, Result, Err}
use Rattle.std.specs.List.{list_all}
use Rattle.values.specs.Faults.{◌>>=◌, wanted, wanted_if}
use Rattle.algebra.specs.declared.condition.Condition.{Condition}
use Rattle.algebra.specs.declared.expr.Expr.{Expr}
use Rattle.algebra.specs.declared.expr.Expr.TheVariants as expr
use Rattle.algebra.specs.ConjunctParts.{union, part, rest}
use Rattle.props.specs.Knowledge.{Knowledge}
use Rattle.rules.specs.declared.pattern.Operator.TheVariants as operator
use Rattle.rules.specs.declared.pattern.Operators.TheVariants.{Only}
use Rattle.rules.specs.declared.pattern.Pattern as lines
use Rattle.rules.specs.declared.pattern.Pattern.TheVariants.{Two}
use Rattle.rules.specs.Patterns.{first}
use Rattle.rules.specs.declared.promise.Promise.{Promise}
use Rattle.rules.specs.declared.promise.Promise.TheVariants.{Products}
use Rattle.rules.specs.declared.shape.Shape.{Shape}
use Rattle.rules.specs.declared.shape.Shape.TheVariants.{Class, Join}
use Rattle.rules.specs.declared.unfit.Unfit.{Unfit}
use Rattle.rules.specs.declared.unfit.Unfit.TheVariants.{Pattern, Condition as FailedCondition}
use Rattle.rules.specs.Conjuncts.{is_apart_from}
use Rattle.rules.specs.Matches.{Line, Matched, two_lines}
use Rattle.rules.specs.Promises.{are_connected, of_join}

-- the lines that it takes
abbrev pub pattern : lines.Pattern
pattern = Two (Only operator.Join) (first (Only operator.Join))

abbrev pub reordered : Knowledge → List Condition → List Condition → ℕ → ℕ → ℕ → Result Shape Unfit
reordered K C D a b z =
    let all : List Condition = union C D in
    wanted_if FailedCondition (list_all (is_apart_from K z) C) (Join (rest (is_apart_from K a) all) (Class a) (Join (part (is_apart_from K a) all) (Class b) (Class z)))

abbrev pub associated : Knowledge → Expr → Expr → Result Shape Unfit
associated K (expr.Join D x z) (expr.Join C a b) = reordered K C D a b z
associated K x y = Err Pattern

abbrev pub join_associates : Matched → Result Shape Unfit
join_associates m = wanted Pattern (two_lines m) >>= λ l. associated m.classes l.0 l.1

-- when it is tried: a condition of either join may connect the two sides that are joined first
abbrev pub promised : Knowledge → Expr → Expr → Promise
promised K (expr.Join D x z) (expr.Join C a b) = of_join (are_connected K D b z || are_connected K C b z)
promised K x y = Products

abbrev pub promised_at : Knowledge → List Line → Promise
promised_at K (l ∷ k ∷ []) = promised K l.expr k.expr
promised_at K lines = Products

abbrev pub promise : Matched → Promise
promise m = promised_at m.classes m.lines
