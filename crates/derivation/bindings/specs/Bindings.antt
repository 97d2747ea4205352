-- Bindings: a rule, what it picks, and the lines that it is applied to; and what it gives there.
-- Patterns of rules and their bindings: Graefe, The Cascades framework for query optimization, 1995.
use Rattle.std.specs.Prelude.{◌≡◌, ℕ, List, [], ◌∷◌, Option, Some, None, Result, Ok, Err}
use Rattle.query.specs.declared.query.TableInstance.{TableInstance}
use Rattle.props.specs.Knowledge.{Knowledge}
use Rattle.rules.specs.declared.shape.Shape.{Shape}
use Rattle.rules.specs.declared.unfit.Unfit.{Unfit}
use Rattle.rules.specs.Matches as matches
use Rattle.book.specs.declared.names.RuleName.{RuleName}
use Rattle.book.specs.Book.{given_by}
use Rattle.derivation.specs.declared.line.Step.{Step}
use Rattle.derivation.specs.Logs.{Log, knowledge}
use Rattle.derivation.specs.Replay.{members}
use Rattle.bindings.specs.declared.binding.Binding.{Binding}
use Rattle.bindings.specs.declared.binding.BoundLines.{BoundLines}
use Rattle.bindings.specs.declared.binding.BoundLines.TheVariants.{One, Two, Three}
use Rattle.bindings.specs.declared.rule_results.RuleResult.{RuleResult}

-- the lines that a binding names
abbrev pub uses_in : BoundLines → List ℕ
uses_in (One i) = i ∷ []
uses_in (Two i j) = i ∷ j ∷ []
uses_in (Three i j k) = i ∷ j ∷ k ∷ []

abbrev pub uses_of : Binding → List ℕ
uses_of b = uses_in b.lines

abbrev pub first_of : List ℕ → Option ℕ
first_of [] = None
first_of (i ∷ uses) = Some i

-- its step, whose inner expressions stand in these lines
abbrev pub step_of : Binding → List ℕ → Step
step_of b makes = record { rule = b.rule; pick = b.pick; uses = uses_of b; makes = makes }

-- ---- what its rule gives

abbrev pub applied : Knowledge → RuleName → ℕ → List matches.Line → Result Shape Unfit
applied K rule pick lines = given_by rule (record { lines = lines; pick = pick; classes = K })

-- of a class, where it gives a shape
abbrev pub shape_given : ℕ → Result Shape Unfit → Option RuleResult
shape_given g (Ok s) = Some (record { class = g; shape = s })
shape_given g (Err u) = None

-- of the class of the first of the lines
abbrev pub given_at : Knowledge → RuleName → ℕ → List matches.Line → Option RuleResult
given_at K rule pick [] = None
given_at K rule pick (top ∷ others) = shape_given top.class (applied K rule pick (top ∷ others))

-- where there are such lines
abbrev pub given_among : Knowledge → RuleName → ℕ → Option (List matches.Line) → Option RuleResult
given_among K rule pick None = None
given_among K rule pick (Some lines) = given_at K rule pick lines

-- at the lines of these numbers, if each has an expression
abbrev pub given_over : List TableInstance → Log → RuleName → ℕ → List ℕ → Option RuleResult
given_over instances E rule pick uses = given_among (knowledge instances E) rule pick (members E uses)

abbrev pub given_by_binding : List TableInstance → Log → Binding → Option RuleResult
given_by_binding instances E b = given_over instances E b.rule b.pick (uses_of b)

-- the rule of a binding gives something at its lines
pub record GivesBinding (instances : List TableInstance) (E : Log) (b : Binding) : Type 0 where
  pub given : RuleResult
  pub is : given_by_binding instances E b ≡ Some given
