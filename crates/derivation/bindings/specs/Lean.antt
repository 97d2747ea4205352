-- Lean logs: each line past the first ones says something new, and what is founded there serves the result of a rule.
-- Expressions that come again are found in the memo: Graefe, The Cascades framework for query optimization, 1995.
use Rattle.std.specs.Prelude.{◌≡◌, ℕ, ◌≤◌, Bool, true, false, List, [], ◌∷◌, ◌++◌, length, Some}
use Rattle.std.specs.List.{list_any}
use Rattle.query.specs.declared.query.TableInstance.{TableInstance}
use Rattle.algebra.specs.declared.expr.Expr.{Expr}
use Rattle.algebra.specs.Columns.{has}
use Rattle.props.specs.Given.{is_known}
use Rattle.rules.specs.Matches as matches
use Rattle.derivation.specs.declared.line.Line.{Line}
use Rattle.derivation.specs.declared.line.Line.TheVariants.{Founds, Adds, Unites, Alike, Gives}
use Rattle.derivation.specs.Logs.{Log, member, class_at, are_same, knowledge}

-- ---- what a line says

-- no line has the expression
abbrev pub IsUnsaid : Log → Expr → Type 0
IsUnsaid E x = (n : ℕ) (l : matches.Line) → member E n ≡ Some l → l.expr ≡ x → ⊥

-- behind a log a line says something new: an expression that no line has, that classes are the same which weren't, or a fact that wasn't known
abbrev pub SaysNew : List TableInstance → Log → Line → Type 0
SaysNew instances E (Founds x) = IsUnsaid E x
SaysNew instances E (Adds g s x) = IsUnsaid E x
SaysNew instances E (Unites g h s) = are_same E g h ≡ false
SaysNew instances E (Alike i j) = are_same E (class_at E i) (class_at E j) ≡ false
SaysNew instances E (Gives g m f) = is_known (knowledge instances E) g f ≡ false

-- ---- what a result names

-- the lines that have the inner expressions of a line's result, if it is that of a rule
abbrev pub made_of : Line → List ℕ
made_of (Founds x) = []
made_of (Adds g s x) = s.makes
made_of (Unites g h s) = s.makes
made_of (Alike i j) = []
made_of (Gives g m f) = []

-- these, and the lines to which the rule was applied
abbrev pub named_by : Line → List ℕ
named_by (Founds x) = []
named_by (Adds g s x) = s.uses ++ s.makes
named_by (Unites g h s) = s.uses ++ s.makes
named_by (Alike i j) = []
named_by (Gives g m f) = []

-- ---- lean logs

-- past the first k lines: each line says something new, and what a line founds is among those that a later result names; the last two may wait for one
pub record IsLean (instances : List TableInstance) (names : Line → List ℕ) (k : ℕ) (E : Log) : Type 0 where
  pub new : (later : List Line) (l : Line) (before : Log) → E ≡ later ++ (l ∷ before) → k ≤ length before → SaysNew instances before l
  pub served : (later : List Line) (x : Expr) (before : Log) → E ≡ later ++ (Founds x ∷ before) → k ≤ length before → 2 ≤ length later → list_any (λ l. has (names l) (length before)) later ≡ true
