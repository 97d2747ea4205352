-- What the rules give at each line of a log, by their patterns: alone, over lines of a class that it takes, and with something picked.
use Rattle.std.specs.Prelude.{◌≡◌, ℕ, Bool, true, List, [], ◌∷◌, length, Option, Some, None}
use Rattle.query.specs.declared.query.TableInstance.{TableInstance}
use Rattle.algebra.specs.declared.expr.Expr.{Expr}
use Rattle.algebra.specs.declared.expr.Expr.TheVariants.{Select}
use Rattle.algebra.specs.Conditions.{classes_in}
use Rattle.props.specs.Knowledge.{Knowledge}
use Rattle.book.specs.declared.names.RuleName.{RuleName}
use Rattle.book.specs.Book.{pattern_of}
use Rattle.rules.specs.declared.pattern.Input.{Input}
use Rattle.rules.specs.declared.pattern.Pattern.{Pattern}
use Rattle.rules.specs.Matches as matches
use Rattle.rules.specs.Patterns.{input_of, lines_fit}
use Rattle.derivation.specs.Logs.{Log, knowledge, member}
use Rattle.derivation.specs.Replay.{members}
use Rattle.logs.specs.Members.{is_member}
use Rattle.bindings.specs.declared.binding.Binding.{Binding}
use Rattle.bindings.specs.declared.rule_results.RuleResult.{RuleResult}
use Rattle.bindings.specs.Bindings.{given_over, uses_of}
use Rattle.closure.specs.Closed.{is_there}

-- what may be picked: the places of conjuncts, and the classes that they name
abbrev pub conjunct_count : Expr → ℕ
conjunct_count (Select C x) = length C
conjunct_count x = 0

abbrev pub named_by : Expr → List ℕ
named_by (Select C x) = classes_in C
named_by x = []

-- whether what is given stands in its class; nothing does
abbrev pub stands_in_class : Knowledge → Log → Option RuleResult → Bool
stands_in_class K E None = true
stands_in_class K E (Some given) = is_there K E given.shape given.class

module _ (instances : List TableInstance) (E : Log) where
  -- whether what a rule gives at the lines of these numbers, if it gives something, stands in the class of the first
  abbrev pub has_result : RuleName → ℕ → List ℕ → Bool
  has_result rule pick uses = stands_in_class (knowledge instances E) E (given_over instances E rule pick uses)

  abbrev pub has_result_of : Binding → Bool
  has_result_of b = has_result b.rule b.pick (uses_of b)

  -- so it is over each line of the class, if there is one
  abbrev pub HasPairs : RuleName → ℕ → ℕ → Option ℕ → Type 0
  HasPairs rule pick i class = (g n : ℕ) → class ≡ Some g → is_member E g n ≡ true → has_result rule pick (i ∷ n ∷ []) ≡ true

  -- and over a line over each line of the class that it takes there
  abbrev pub HasTriples : RuleName → ℕ → Input → ℕ → Type 0
  HasTriples rule i input n = (l : matches.Line) → member E n ≡ Some l → (g m : ℕ) → input_of l.expr input ≡ Some g → is_member E g m ≡ true → has_result rule 0 (i ∷ n ∷ m ∷ []) ≡ true

  abbrev pub HasTriplesOver : RuleName → ℕ → Input → Option ℕ → Type 0
  HasTriplesOver rule i input class = (g n : ℕ) → class ≡ Some g → is_member E g n ≡ true → HasTriples rule i input n

  -- so it is wherever lines fit a pattern of which this is the first
  pub record HasResultsBy (rule : RuleName) (i : ℕ) (pattern : Pattern) : Type 0 where
    pub at : (pick : ℕ) (rest : List ℕ) (lines : List matches.Line) → members E (i ∷ rest) ≡ Some lines → lines_fit (knowledge instances E) pick pattern lines ≡ true → has_result rule pick (i ∷ rest) ≡ true

  abbrev pub HasResultsOf : ℕ → Type 0
  HasResultsOf i = (rule : RuleName) → HasResultsBy rule i (pattern_of rule)
