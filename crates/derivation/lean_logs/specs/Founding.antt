-- What the steps within a call do to a log: lines that found what a rule's result is made of, and the result behind them.
use Rattle.std.specs.Prelude.{◌≡◌, ◌⊎◌, ℕ, ◌+◌, ◌<◌, ◌≤◌, true, false, not, List, [], length, Some, Result, Ok, Err}
use Rattle.std.specs.List.{list_all}
use Rattle.algebra.specs.declared.expr.Expr.{Expr}
use Rattle.algebra.specs.Columns.{has}
use Rattle.algebra.specs.Expressions.{children}
use Rattle.rules.specs.declared.shape.Shape.{Shape}
use Rattle.derivation.specs.declared.line.Line.{Line}
use Rattle.derivation.specs.declared.line.Line.TheVariants.{Founds}
use Rattle.derivation.specs.Logs.{are_same, member}
use Rattle.derivation.specs.Replay.{Replays}
use Rattle.logs.specs.Logged.{Logged, with_line}
use Rattle.bindings.specs.declared.binding.Binding.{Binding}
use Rattle.bindings.specs.declared.rule_results.RuleResult.{RuleResult}
use Rattle.bindings.specs.Bindings.{given_by_binding}
use Rattle.bindings.specs.Founding.{founds_something, IsFounded}
use Rattle.bindings.specs.Lean.{SaysNew, made_of}
use Rattle.bindings.specs.Shallow.{operator_count}
use Rattle.bindings.specs.Spelt.{MayStand, IsPlaced, IsSpelt}
use Rattle.lean_logs.specs.declared.founded.Placed.{Placed}
use Rattle.lean_logs.specs.declared.founded.Spelt.{Spelt}
use Rattle.lean_logs.specs.declared.lean_log.Member.{Member}
use Rattle.lean_logs.specs.declared.unadded.Unadded.{Unadded}
use Rattle.lean_logs.specs.declared.unadded.Unadded.TheVariants.{Memory, Refused}
use Rattle.lean_logs.specs.Growth.{Grows, IsWithin, AreNew}

-- a line is added that says something new, to a log with room
pub record IsAdded (limit : ℕ) (old : Logged) (line : Line) (new : Logged) : Type 0 where
  pub room : length old.log < limit
  pub added : new ≡ with_line old line
  pub says : SaysNew old.instances old.log line

-- lines are added that say something new, none of which founds anything
pub record TellsNew (limit : ℕ) (old new : Logged) : Type 0 where
  pub grows : Grows old new
  pub within : IsWithin limit old new
  pub founding : list_all (λ l. not (founds_something l)) grows.more ≡ true
  pub news : AreNew old.instances old.log grows.more

-- lines are added that found something new, and no others
pub record FoundsNew (old new : Logged) : Type 0 where
  pub grows : Grows old new
  pub founding : list_all founds_something grows.more ≡ true
  pub news : AreNew old.instances old.log grows.more
  pub replays : Replays new.instances new.own new.log

-- ---- shapes, of which the inner expressions are looked up or founded

-- the shape may stand, whatever is founded first
abbrev pub MayStandBehind : Logged → Shape → Type 0
MayStandBehind old s = (new : Logged) → IsFounded old new → MayStand new.instances new.own new.log s

-- each line that was added is among these
abbrev pub AreNamed : Logged → Logged → List ℕ → Type 0
AreNamed old new makes = (n : ℕ) → length old.log ≤ n → n < length new.log → has makes n ≡ true

-- the class is that of the last line
abbrev pub IsNewest : Logged → ℕ → Type 0
IsNewest new g = g + 1 ≡ length new.log

-- an expression takes the class of the last line
pub record TakesNewest (new : Logged) (x : Expr) : Type 0 where
  pub class : ℕ
  pub newest : IsNewest new class
  pub takes : has (children x) class ≡ true

-- the shape is this class by these lines, among which are all that were founded; if any was, the class is that of the last of them
pub record IsPlacedBehind (old : Logged) (s : Shape) (p : Placed) (new : Logged) : Type 0 where
  pub founds : FoundsNew old new
  pub count : length new.log ≤ operator_count s + length old.log
  pub named : AreNamed old new p.makes.items
  pub newest : (new ≡ old) ⊎ IsNewest new p.class
  pub placed : (l : Logged) → IsFounded new l → IsPlaced l.instances l.own l.log s p.class p.makes.items

-- so it is with an operator's expression, which takes that class
pub record IsSpeltBehind (old : Logged) (s : Shape) (e : Spelt) (new : Logged) : Type 0 where
  pub founds : FoundsNew old new
  pub count : length new.log + 1 ≤ operator_count s + length old.log
  pub named : AreNamed old new e.makes.items
  pub newest : (new ≡ old) ⊎ TakesNewest new e.expr
  pub spelt : (l : Logged) → IsFounded new l → IsSpelt l.instances l.own l.log s e.expr e.makes.items

-- the log is full before all of it is founded
pub record IsFilled (limit : ℕ) (old : Logged) (s : Shape) (new : Logged) : Type 0 where
  pub founds : FoundsNew old new
  pub count : length new.log + 1 ≤ operator_count s + length old.log
  pub full : limit ≤ length new.log

abbrev pub PlacedAs : ℕ → Logged → Shape → Logged → Result Placed Unadded → Type 0
PlacedAs limit old s new (Ok p) = IsPlacedBehind old s p new
PlacedAs limit old s new (Err Memory) = Unit {0}
PlacedAs limit old s new (Err Refused) = IsFilled limit old s new

abbrev pub SpeltAs : ℕ → Logged → Shape → Logged → Result Spelt Unadded → Type 0
SpeltAs limit old s new (Ok e) = IsSpeltBehind old s e new
SpeltAs limit old s new (Err Memory) = Unit {0}
SpeltAs limit old s new (Err Refused) = IsFilled limit old s new

-- ---- one expression

-- a line has the expression: one that was there, or a new one
pub record IsInterned (limit : ℕ) (old : Logged) (x : Expr) (m : Member) (new : Logged) : Type 0 where
  pub there : member new.log m.line ≡ Some (record { class = m.class; expr = x })
  pub added : (new ≡ old) ⊎ (IsAdded limit old (Founds x) new × (m.line ≡ length old.log) × (m.class ≡ length old.log))

abbrev pub InternedAs : ℕ → Logged → Expr → Logged → Result Member Unadded → Type 0
InternedAs limit old x new (Ok m) = IsInterned limit old x m new
InternedAs limit old x new (Err Memory) = Unit {0}
InternedAs limit old x new (Err Refused) = (new ≡ old) × (limit ≤ length old.log)

-- ---- results

-- what a rule gives stands in the class already: it is the class of these lines, and that is the same
pub record Stands (E : Logged) (g : RuleResult) : Type 0 where
  pub class : ℕ
  pub makes : List ℕ
  pub placed : IsPlaced E.instances E.own E.log g.shape class makes
  pub same : are_same E.log g.class class ≡ true

-- so it is with what a binding's rule gives
pub record StandsFor (E : Logged) (b : Binding) : Type 0 where
  pub given : RuleResult
  pub is : given_by_binding E.instances E.log b ≡ Some given
  pub stands : Stands E given

-- a line of the result is there, of its class or of one that is the same
pub record IsThere (old : Logged) (g : RuleResult) (x : Expr) (new : Logged) : Type 0 where
  pub line : ℕ
  pub class : ℕ
  pub there : member old.log line ≡ Some (record { class = class; expr = x })
  pub same : are_same old.log g.class class ≡ true
  pub kept : new ≡ old

-- a line is added that names these, and behind it none that founds anything
pub record IsToldNew (limit : ℕ) (old : Logged) (makes : List ℕ) (new : Logged) : Type 0 where
  pub line : Line
  pub behind : Logged
  pub added : IsAdded limit old line behind
  pub founds : founds_something line ≡ false
  pub names : made_of line ≡ makes
  pub tells : TellsNew limit behind new

-- nothing is added to a log that is full
pub record IsLeftOut (limit : ℕ) (old new : Logged) : Type 0 where
  pub kept : new ≡ old
  pub full : limit ≤ length old.log

abbrev pub IsToldBy : ℕ → Logged → List ℕ → Logged → Type 0
IsToldBy limit old makes new = IsToldNew limit old makes new ⊎ IsLeftOut limit old new

-- what a rule gives that is a class
abbrev pub ClassTold : ℕ → Logged → RuleResult → Logged → Type 0
ClassTold limit old g new = (Stands old g × (new ≡ old)) ⊎ IsToldBy limit old [] new

-- a result of which the inner expressions stand in lines, and are named by a line that is added
abbrev pub NamesAll : ℕ → Logged → List ℕ → Logged → Type 0
NamesAll limit old makes new = (named : List ℕ) × ((n : ℕ) → has makes n ≡ true → has named n ≡ true) × IsToldBy limit old named new

abbrev pub ResultTold : ℕ → Logged → RuleResult → Spelt → Logged → Type 0
ResultTold limit old g e new = IsThere old g e.expr new ⊎ NamesAll limit old e.makes.items new
