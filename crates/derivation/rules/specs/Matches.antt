-- What rules are applied to.
use Rattle.std.specs.Prelude.{ℕ, Bool, ◌==◌, false, if◌then◌else◌, List, [], ◌∷◌, map, Option, Some, None}
use Rattle.algebra.specs.declared.expr.Expr.{Expr}
use Rattle.algebra.specs.Expressions.{children}
use Rattle.props.specs.declared.known.KnownClasses.{KnownClasses}
use Rattle.props.specs.Knowledge.{Knowledge, are_same, known}
use Rattle.rules.specs.declared.matching.Match.{Match}
use Rattle.rules.specs.declared.matching.MatchedLine.{MatchedLine}

-- an expression of a class
pub record Line : Type 0 where
  pub class : ℕ
  pub expr : Expr

-- lines, the top first, and what is known of classes
pub record Matched : Type 0 where
  pub lines : List Line
  pub pick : ℕ
  pub classes : Knowledge

abbrev pub line_in : MatchedLine → Line
line_in l = record { class = l.class; expr = l.expr.now }

abbrev pub known_in : KnownClasses → Knowledge
known_in = known

abbrev pub matched : Match → Matched
matched m = record { lines = map line_in m.lines.now; pick = m.pick; classes = known m.classes }

-- ---- how lines hang together

-- the first class whose rows the expression takes is the same as the class
abbrev pub is_first_same : Knowledge → List ℕ → ℕ → Bool
is_first_same K [] g = false
is_first_same K (x ∷ others) g = are_same K x g

abbrev pub takes : Knowledge → Expr → ℕ → Bool
takes K x g = is_first_same K (children x) g

-- what is there where nothing is picked
abbrev pub unpicked : {X : Type 0} → ℕ → Option X → Option X
unpicked pick x = if pick == 0 then x else None

-- the expression, where there is one line
abbrev pub the_one : List Line → Option Expr
the_one [] = None
the_one (l ∷ []) = Some l.expr
the_one (l ∷ k ∷ others) = None

abbrev pub one_line : Matched → Option Expr
one_line m = unpicked m.pick (the_one m.lines)

-- the expressions, where there are two lines and the second is of the class that the first takes
abbrev pub the_two : Knowledge → List Line → Option (Expr × Expr)
the_two K [] = None
the_two K (l ∷ []) = None
the_two K (l ∷ k ∷ []) = if takes K l.expr k.class then Some (l.expr, k.expr) else None
the_two K (l ∷ k ∷ j ∷ others) = None

abbrev pub two_lines : Matched → Option (Expr × Expr)
two_lines m = unpicked m.pick (the_two m.classes m.lines)
