-- Closed logs: whatever a rule gives stands there already, up to which classes are the same.
-- Exploration until no rule adds anything: Graefe, The Cascades framework for query optimization, 1995.
use Rattle.std.specs.Prelude.{◌≡◌, ℕ, Bool, true, false, not, ◌&&◌, ◌||◌, List, [], ◌∷◌, length, Option, Some, None, Ok}
use Rattle.std.specs.List.Sorted.{IsStrictlyIncreasing}
use Rattle.query.specs.declared.query.TableInstance.{TableInstance}
use Rattle.algebra.specs.declared.expr.Expr.{Expr}
use Rattle.algebra.specs.declared.expr.Expr.TheVariants as expr
use Rattle.algebra.specs.Alike.{rooted, AreAlike}
use Rattle.algebra.specs.Columns.{is_subset}
use Rattle.algebra.specs.Equality.{same_expr}
use Rattle.algebra.specs.Expressions.{children}
use Rattle.props.specs.declared.fact.Fact.{Fact}
use Rattle.props.specs.Facts.{fact_columns}
use Rattle.props.specs.Given.{gives, is_known}
use Rattle.props.specs.Knowledge.{Knowledge}
use Rattle.props.specs.Knowledge as knowledge
use Rattle.book.specs.declared.names.RuleName.{RuleName}
use Rattle.rules.specs.declared.shape.Shape.{Shape, fold-Shape}
use Rattle.rules.specs.declared.shape.Shape.TheOpen.{Shape-F}
use Rattle.book.specs.Book.{given_by}
use Rattle.rules.specs.Matches as matches
use Rattle.derivation.specs.Logs as logs
use Rattle.derivation.specs.Logs.{Log, as_member, member, are_same}
use Rattle.derivation.specs.Replay.{members}

-- ---- where a shape stands

abbrev pub passes : (matches.Line → Bool) → Option matches.Line → Bool
passes p None = false
passes p (Some l) = p l

-- whether a line that has an expression passes
abbrev pub any_line : (matches.Line → Bool) → Log → Bool
any_line p [] = false
any_line p (l ∷ E) = passes p (as_member (length E) (Some l)) || any_line p E

module _ (K : Knowledge) where
  -- whether two expressions are equal up to which classes are the same
  abbrev pub alike : Expr → Expr → Bool
  alike x y = same_expr (rooted K.root x) (rooted K.root y)

  -- whether an expression that takes these classes is an operator over one class, of which something is so, and over two
  abbrev pub over_one_of : (ℕ → Expr) → (ℕ → Bool) → Expr → List ℕ → Bool
  over_one_of f p x [] = false
  over_one_of f p x (g ∷ []) = p g && alike (f g) x
  over_one_of f p x (g ∷ h ∷ others) = false

  abbrev pub over_two_of : (ℕ → ℕ → Expr) → (ℕ → Bool) → (ℕ → Bool) → Expr → List ℕ → Bool
  over_two_of f p q x [] = false
  over_two_of f p q x (g ∷ []) = false
  over_two_of f p q x (g ∷ h ∷ []) = p g && q h && alike (f g h) x
  over_two_of f p q x (g ∷ h ∷ j ∷ others) = false

  abbrev pub is_over_one : (ℕ → Expr) → (ℕ → Bool) → Expr → Bool
  is_over_one f p x = over_one_of f p x (children x)

  abbrev pub is_over_two : (ℕ → ℕ → Expr) → (ℕ → Bool) → (ℕ → Bool) → Expr → Bool
  is_over_two f p q x = over_two_of f p q x (children x)

  module _ (E : Log) where
    -- whether a class, or one that is the same, has a line with such an expression
    abbrev pub has_line : (Expr → Bool) → ℕ → Bool
    has_line p g = any_line (λ l. knowledge.are_same K l.class g && p l.expr) E

    -- A class stands in each that is the same. An operator stands in a class that has a line with it, over classes in which its inputs stand.
    abbrev pub standing_layer : Shape-F (ℕ → Bool) → ℕ → Bool
    standing_layer (Shape-F.Class h) = knowledge.are_same K h
    standing_layer (Shape-F.Select C x) = has_line (is_over_one (expr.Select C) x)
    standing_layer (Shape-F.Join C a b) = has_line (is_over_two (expr.Join C) a b)
    standing_layer (Shape-F.LeftJoin C a b) = has_line (is_over_two (expr.LeftJoin C) a b)
    standing_layer (Shape-F.Semi C a b) = has_line (is_over_two (expr.Semi C) a b)
    standing_layer (Shape-F.Anti S M a b) = has_line (is_over_two (expr.Anti S M) a b)
    standing_layer (Shape-F.Keep L x) = has_line (is_over_one (expr.Keep L) x)
    standing_layer (Shape-F.Distinct x) = has_line (is_over_one expr.Distinct x)
    standing_layer (Shape-F.Group L G x) = has_line (is_over_one (expr.Group L G) x)

    -- whether a shape stands in a class
    unfoldable pub is_there : Shape → ℕ → Bool
    is_there = fold-Shape (ℕ → Bool) standing_layer

-- ---- facts

-- whether a line gives a fact of its class that isn't known of it
abbrev pub lacks_fact : List TableInstance → Knowledge → matches.Line → Fact → Bool
lacks_fact instances K l f = not (is_known K l.class f) && is_subset (fact_columns f) (K.columns l.class) && gives instances K l.class l.expr f

-- ---- closed logs

-- lines that are alike are of classes that are the same
abbrev pub AreUnited : Log → Type 0
AreUnited E = (i : ℕ) (k : matches.Line) → member E i ≡ Some k → (j : ℕ) (l : matches.Line) → member E j ≡ Some l → AreAlike (logs.least E) k.expr l.expr → are_same E k.class l.class ≡ true

module _ (instances : List TableInstance) (E : Log) where
  -- what the rule gives at lines, if it fits, stands in the class of the top one
  abbrev pub HasResult : RuleName → ℕ → matches.Line → List matches.Line → Type 0
  HasResult rule pick top others = (s : Shape) → given_by rule (record { lines = top ∷ others; pick = pick; classes = logs.knowledge instances E }) ≡ Ok s
      → is_there (logs.knowledge instances E) E s top.class ≡ true

  -- so does what each rule gives, whichever lines it is applied to
  abbrev pub HasResults : Type 0
  HasResults = (rule : RuleName) (pick : ℕ) (uses : List ℕ) (top : matches.Line) (others : List matches.Line) → members E uses ≡ Some (top ∷ others) → HasResult rule pick top others

  -- no line lacks a fact. The columns of each stand in rising order, as in a set of columns.
  abbrev pub AreLearnt : Type 0
  AreLearnt = (i : ℕ) (l : matches.Line) → member E i ≡ Some l → (f : Fact) → IsStrictlyIncreasing (fact_columns f) → lacks_fact instances (logs.knowledge instances E) l f ≡ false

  pub record IsClosed : Type 0 where
    pub results : HasResults
    pub united : AreUnited E
    pub learnt : AreLearnt
