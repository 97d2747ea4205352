-- What a log lacks to be closed, and what it means that something of it is found, or nothing.
use Rattle.std.specs.Prelude.{◌≡◌, ℕ, true, false, List, Option, Some, None}
use Rattle.std.specs.List.{AllByRecursion}
use Rattle.query.specs.declared.query.TableInstance.{TableInstance}
use Rattle.algebra.specs.Alike.{AreAlike}
use Rattle.props.specs.declared.fact.Fact.{Fact}
use Rattle.rules.specs.Matches as matches
use Rattle.derivation.specs.Logs.{Log, member, least, are_same, knowledge}
use Rattle.bindings.specs.declared.binding.Binding.{Binding}
use Rattle.closure.specs.declared.lacks.Missing.{Missing}
use Rattle.closure.specs.declared.lacks.Missing.TheVariants as lacks
use Rattle.closure.specs.Closed.{AreLearnt, AreUnited}
use Rattle.closure.specs.Learnt.{LacksFact, LineTold}
use Rattle.closure.specs.Lines.{has_result_of}
use Rattle.closure.specs.Places.{AgreesAt, AgreesWithAll}

-- a line that is alike, and of another class
pub record Disagrees (E : Log) (k : matches.Line) (j : ℕ) : Type 0 where
  pub line : matches.Line
  pub there : member E j ≡ Some line
  pub alike : AreAlike (least E) k.expr line.expr
  pub differ : are_same E k.class line.class ≡ false

-- two lines that are alike, and of classes that aren't the same
pub record LacksAlike (E : Log) (i j : ℕ) : Type 0 where
  pub first : matches.Line
  pub there : member E i ≡ Some first
  pub second : Disagrees E first j

module _ (instances : List TableInstance) (E : Log) where
  -- a line of the class lacks a fact
  pub record LacksGiven (g m : ℕ) (f : Fact) : Type 0 where
    pub line : matches.Line
    pub there : member E m ≡ Some line
    pub class_is : line.class ≡ g
    pub fact : LacksFact instances (knowledge instances E) line f

  abbrev pub IsMissing : Missing → Type 0
  IsMissing (lacks.Alike i j) = LacksAlike E i j
  IsMissing (lacks.Result b) = has_result_of instances E b ≡ false
  IsMissing (lacks.Fact g m f) = LacksGiven g m f

-- ---- what is found among lines

abbrev pub DisagreeingAmong : Log → matches.Line → List ℕ → Option ℕ → Type 0
DisagreeingAmong E k lines (Some j) = Disagrees E k j
DisagreeingAmong E k lines None = AllByRecursion (AgreesAt E k) lines

abbrev pub DisagreeingWith : Log → ℕ → Option ℕ → Type 0
DisagreeingWith E i (Some j) = LacksAlike E i j
DisagreeingWith E i None = AgreesWithAll E i

abbrev pub Disagreeing : Log → Option (ℕ × ℕ) → Type 0
Disagreeing E (Some p) = LacksAlike E p.0 p.1
Disagreeing E None = AreUnited E

module _ (instances : List TableInstance) (E : Log) where
  -- a binding whose result doesn't stand in its class; where there is none, it is so
  abbrev pub BindingTold : Type 0 → Option Binding → Type 0
  BindingTold P (Some b) = has_result_of instances E b ≡ false
  BindingTold P None = P

  -- the facts of a line, and of all
  abbrev pub UnlearntAt : ℕ → Option Missing → Type 0
  UnlearntAt i (Some m) = IsMissing instances E m
  UnlearntAt i None = (l : matches.Line) → member E i ≡ Some l → LineTold instances (knowledge instances E) l None

  abbrev pub Unlearnt : Option Missing → Type 0
  Unlearnt (Some m) = IsMissing instances E m
  Unlearnt None = AreLearnt instances E
