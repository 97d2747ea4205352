-- What it means that a class is found whose line has an expression, or in which a shape stands.
use Rattle.std.specs.Prelude.{◌≡◌, ℕ, true, false, List, Option, Some, None}
use Rattle.std.specs.List.{AllByRecursion}
use Rattle.algebra.specs.declared.expr.Expr.{Expr}
use Rattle.algebra.specs.Alike.{AreAlike}
use Rattle.props.specs.Knowledge.{Knowledge}
use Rattle.rules.specs.declared.shape.Shape.{Shape}
use Rattle.rules.specs.Matches as matches
use Rattle.derivation.specs.Logs.{Log, member, least}
use Rattle.closure.specs.Closed.{is_there}

-- ---- lines with an expression, up to which classes are the same

-- a line of this class has it
pub record HasAlike (E : Log) (x : Expr) (g : ℕ) : Type 0 where
  pub number : ℕ
  pub line : matches.Line
  pub stands : member E number ≡ Some line
  pub class_is : line.class ≡ g
  pub alike : AreAlike (least E) x line.expr

-- the line of this number hasn't it
abbrev pub IsUnlike : Log → Expr → ℕ → Type 0
IsUnlike E x n = (l : matches.Line) → member E n ≡ Some l → AreAlike (least E) x l.expr → true ≡ false

abbrev pub LineAnswers : Log → Expr → ℕ → Option ℕ → Type 0
LineAnswers E x n (Some g) = HasAlike E x g
LineAnswers E x n None = IsUnlike E x n

abbrev pub ListAnswers : Log → Expr → List ℕ → Option ℕ → Type 0
ListAnswers E x lines (Some g) = HasAlike E x g
ListAnswers E x lines None = AllByRecursion (IsUnlike E x) lines

-- a class that has it, or that no line has it
abbrev pub Answers : Log → Expr → Option ℕ → Type 0
Answers E x (Some g) = HasAlike E x g
Answers E x None = (n : ℕ) → IsUnlike E x n

-- the same of an operator over a class, if there is one
abbrev pub OneAnswers : Log → (ℕ → Expr) → Option ℕ → Option ℕ → Type 0
OneAnswers E f None found = found ≡ None
OneAnswers E f (Some g) found = Answers E (f g) found

abbrev pub TwoAnswers : Log → (ℕ → ℕ → Expr) → Option ℕ → Option ℕ → Option ℕ → Type 0
TwoAnswers E f None right found = found ≡ None
TwoAnswers E f (Some g) None found = found ≡ None
TwoAnswers E f (Some g) (Some h) found = Answers E (f g h) found

-- a class in which a shape stands, or that it stands in none
abbrev pub StandsAs : Knowledge → Log → Shape → Option ℕ → Type 0
StandsAs K E s (Some g) = is_there K E s g ≡ true
StandsAs K E s None = (g : ℕ) → is_there K E s g ≡ false
