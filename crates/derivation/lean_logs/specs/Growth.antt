-- What a memo's calls do to its log.
use Rattle.std.specs.Prelude.{◌≡◌, ℕ, ◌+◌, ◌≤◌, true, not, List, [], ◌∷◌, ◌++◌, filter, length, max, if◌then◌else◌}
use Rattle.query.specs.declared.query.TableInstance.{TableInstance}
use Rattle.algebra.specs.Columns.{has}
use Rattle.derivation.specs.declared.line.Line.{Line}
use Rattle.derivation.specs.Logs.{Log}
use Rattle.logs.specs.Logged.{Logged}
use Rattle.bindings.specs.Founding.{founds_something}
use Rattle.bindings.specs.Lean.{SaysNew, made_of, named_by}

-- the lines before stand unchanged, and others only behind them, over the same table instances and aggregates
pub record Grows (old new : Logged) : Type 0 where
  pub instances : new.instances ≡ old.instances
  pub own : new.own ≡ old.own
  pub more : List Line
  pub log : new.log ≡ more ++ old.log

-- to a log of so many lines none is added
abbrev pub IsWithin : ℕ → Logged → Logged → Type 0
IsWithin limit old new = length new.log ≤ max limit (length old.log)

-- both
pub record Extends (limit : ℕ) (old new : Logged) : Type 0 where
  pub grows : Grows old new
  pub within : IsWithin limit old new

-- ---- lean growth

-- behind a log each of the lines says something new
abbrev pub AreNew : List TableInstance → Log → List Line → Type 0
AreNew instances E [] = Unit {0}
AreNew instances E (l ∷ lines) = SaysNew instances (lines ++ E) l × AreNew instances E lines

-- of the numbers that wait those that a line doesn't name, and its own, if it founds something
abbrev pub waiting_behind : (Line → List ℕ) → Line → ℕ → List ℕ → List ℕ
waiting_behind names l n waiting = if founds_something l then n ∷ filter (λ m. not (has (names l) m)) waiting else filter (λ m. not (has (names l) m)) waiting

-- of lines behind so many others, the numbers of those that found something and wait for a line that names them
abbrev pub waiting : (Line → List ℕ) → ℕ → List Line → List ℕ
waiting names k [] = []
waiting names k (l ∷ lines) = waiting_behind names l (length lines + k) (waiting names k lines)

-- lines are added that say something new, and each that founds something is named by a result behind it
pub record GrowsLean (limit : ℕ) (old new : Logged) : Type 0 where
  pub grows : Grows old new
  pub within : IsWithin limit old new
  pub news : AreNew old.instances old.log grows.more
  pub served : waiting made_of (length old.log) grows.more ≡ []

-- the same, but that of a full log the last two lines may wait
pub record FillsLean (limit : ℕ) (old new : Logged) : Type 0 where
  pub grows : Grows old new
  pub within : IsWithin limit old new
  pub news : AreNew old.instances old.log grows.more
  pub served : (n : ℕ) → has (waiting made_of (length old.log) grows.more) n ≡ true → (limit ≤ length new.log) × (length new.log ≤ n + 2)

-- ---- logs of which each founded line is named

-- behind a log stand lines that say something new, and each that founds something a later result names, or is made of
pub record IsServed (old new : Logged) : Type 0 where
  pub grows : Grows old new
  pub news : AreNew old.instances old.log grows.more
  pub served : waiting named_by (length old.log) grows.more ≡ []

-- the same, but that those that still wait are among these
pub record IsServedBut (ns : List ℕ) (old new : Logged) : Type 0 where
  pub grows : Grows old new
  pub news : AreNew old.instances old.log grows.more
  pub served : (n : ℕ) → has (waiting named_by (length old.log) grows.more) n ≡ true → has ns n ≡ true
