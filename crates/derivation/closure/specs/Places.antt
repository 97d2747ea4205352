-- Lines by the numbers of their expressions.
use Rattle.std.specs.Prelude.{◌≡◌, ℕ, ◌+◌, ◌%◌, ◌<◌, Bool, true, false, List, length, Option, Some, None}
use Rattle.algebra.specs.declared.expr.Expr.{Expr}
use Rattle.algebra.specs.Alike.{rooted, AreAlike}
use Rattle.algebra.specs.Columns.{has, columns_at}
use Rattle.rules.specs.Matches as matches
use Rattle.derivation.specs.Logs.{Log, member, least, are_same}
use Rattle.closure.specs.Numbers.{expression_number}

-- where the lines are that are alike: one of as many places as there are lines, and one more, by the number of the expression with roots
abbrev pub place : Log → Expr → ℕ
place E x = expression_number (rooted (least E) x) % (length E + 1)

-- each of the first lines stands in its place
pub record AreEntered (E : Log) (n : ℕ) (over : List (List ℕ)) : Type 0 where
  pub count : length over ≡ length E + 1
  pub entered : (i : ℕ) (l : matches.Line) → i < n → member E i ≡ Some l → has (columns_at over (place E l.expr)) i ≡ true

-- a line of this number, if it has an expression that is alike, is of a class that is the same
abbrev pub AgreesAt : Log → matches.Line → ℕ → Type 0
AgreesAt E k j = (l : matches.Line) → member E j ≡ Some l → AreAlike (least E) k.expr l.expr → are_same E k.class l.class ≡ true

-- so it is with each line, whether it has an expression or not
abbrev pub AgreesWithAll : Log → ℕ → Type 0
AgreesWithAll E i = (k : matches.Line) → member E i ≡ Some k → (j : ℕ) → AgreesAt E k j

-- whether two lines are alike, and of classes that aren't the same
abbrev pub Disagree : Log → matches.Line → matches.Line → Bool → Type 0
Disagree E k l true = AreAlike (least E) k.expr l.expr × (are_same E k.class l.class ≡ false)
Disagree E k l false = AreAlike (least E) k.expr l.expr → are_same E k.class l.class ≡ true
