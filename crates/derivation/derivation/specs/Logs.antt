-- Logs: the lines of a derivation, the last of them first, so that a line's number is how many stand behind it. What a log founds,
-- which lines are of which class, which classes are the same, and which facts it gives.
-- Classes with members, found by rules: Graefe, The Cascades framework for query optimization, 1995 (groups of a memo).
use Rattle.std.specs.Prelude.{◌≡◌, ℕ, Bool, true, false, ◌&&◌, ◌||◌, ◌==◌, nat_lt, if◌then◌else◌, List, [], ◌∷◌, length, map, Option, Some, None}
use Rattle.query.specs.declared.query.TableInstance.{TableInstance}
use Rattle.algebra.specs.declared.expr.Expr.{Expr}
use Rattle.algebra.specs.declared.expr.Expr.TheVariants.{Keep}
use Rattle.algebra.specs.Classes.{class_columns, class_free}
use Rattle.props.specs.declared.fact.Fact.{Fact}
use Rattle.props.specs.declared.fact.FactSets.{FactSets}
use Rattle.props.specs.Facts.{no_facts, with_fact}
use Rattle.props.specs.Knowledge.{Knowledge}
use Rattle.rules.specs.Matches as matches
use Rattle.derivation.specs.declared.line.Line.{Line}
use Rattle.derivation.specs.declared.line.Step.{Step}
use Rattle.derivation.specs.declared.line.Line.TheVariants.{Founds, Adds, Unites, Alike, Gives}

abbrev pub Log : Type 0
Log = List Line

abbrev pub line_at : Log → ℕ → Option Line
line_at [] i = None
line_at (l ∷ E) i = if i == length E then Some l else line_at E i

-- ---- classes

abbrev pub is_founding : Option Line → Bool
is_founding None = false
is_founding (Some (Founds x)) = true
is_founding (Some (Adds g s x)) = false
is_founding (Some (Unites g h s)) = false
is_founding (Some (Alike i j)) = false
is_founding (Some (Gives g m f)) = false

-- whether a line founds a class
abbrev pub founds : Log → ℕ → Bool
founds E g = is_founding (line_at E g)

-- Classes have the numbers of lines. A line that founds none stands for the rows of the first class with no column of it, under a number
-- that no line may name: it has neither columns nor free columns.
abbrev pub entry : Line → Expr
entry (Founds x) = x
entry (Adds g s x) = Keep [] 0
entry (Unites g h s) = Keep [] 0
entry (Alike i j) = Keep [] 0
entry (Gives g m f) = Keep [] 0

abbrev pub entries : Log → List Expr
entries E = map entry E

-- ---- members

-- the expression of a line, and the class of which it is
abbrev pub as_member : ℕ → Option Line → Option matches.Line
as_member i None = None
as_member i (Some (Founds x)) = Some (record { class = i; expr = x })
as_member i (Some (Adds g s x)) = Some (record { class = g; expr = x })
as_member i (Some (Unites g h s)) = None
as_member i (Some (Alike j k)) = None
as_member i (Some (Gives g m f)) = None

abbrev pub member : Log → ℕ → Option matches.Line
member E i = as_member i (line_at E i)

abbrev pub or_class : ℕ → Option matches.Line → ℕ
or_class i None = i
or_class i (Some l) = l.class

-- the class of a line's expression, if it has one
abbrev pub class_at : Log → ℕ → ℕ
class_at E i = or_class i (member E i)

-- ---- sameness

abbrev pub lesser : ℕ → ℕ → ℕ
lesser a b = if nat_lt b a then b else a

-- the least of a class's sames, once those of two others are united
abbrev pub united : ℕ → ℕ → ℕ → ℕ
united a b least = if least == a || least == b then lesser a b else least

-- the least class that is the same
abbrev pub least : Log → ℕ → ℕ
least [] k = k
least (Founds x ∷ E) k = least E k
least (Adds g s x ∷ E) k = least E k
least (Unites g h s ∷ E) k = united (least E g) (least E h) (least E k)
least (Alike i j ∷ E) k = united (least E (class_at E i)) (least E (class_at E j)) (least E k)
least (Gives g m f ∷ E) k = least E k

abbrev pub are_same : Log → ℕ → ℕ → Bool
are_same E g h = least E g == least E h

-- the least equivalence under which the classes are one that a line unites, and those of lines that are alike
pub data SameBy (E : Log) : ℕ → ℕ → Type 0 where
  itself : (g : ℕ) → SameBy E g g
  turned : (g h : ℕ) → SameBy E g h → SameBy E h g
  along : (g h k : ℕ) → SameBy E g h → SameBy E h k → SameBy E g k
  by_rule : (n g h : ℕ) (s : Step) → line_at E n ≡ Some (Unites g h s) → SameBy E g h
  by_alike : (n i j : ℕ) (k l : matches.Line) → line_at E n ≡ Some (Alike i j) → member E i ≡ Some k → member E j ≡ Some l → SameBy E k.class l.class

-- ---- facts

-- the facts that lines say of a class and of those that are the same
abbrev pub facts_among : (ℕ → Bool) → Log → FactSets
facts_among same [] = no_facts
facts_among same (Founds x ∷ E) = facts_among same E
facts_among same (Adds g s x ∷ E) = facts_among same E
facts_among same (Unites g h s ∷ E) = facts_among same E
facts_among same (Alike i j ∷ E) = facts_among same E
facts_among same (Gives g m f ∷ E) = if same g then with_fact (facts_among same E) f else facts_among same E

abbrev pub facts : Log → ℕ → FactSets
facts E k = facts_among (are_same E k) E

-- ---- all that is known

abbrev pub knowledge : List TableInstance → Log → Knowledge
knowledge instances E = record {
  columns = class_columns instances (entries E);
  free = class_free instances (entries E);
  root = least E;
  facts = facts E;
}
