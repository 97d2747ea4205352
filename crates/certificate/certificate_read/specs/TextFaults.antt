-- The first faulty line of a text, and why it is refused.
use Rattle.std.specs.Prelude.{◌≡◌, ◌⊎◌, ℕ, zero, suc, ◌+◌, ◌-◌, ◌<◌, ◌≤◌, ◌^◌, min, nat_le, true, List, [], ◌∷◌, ◌++◌, length, map, flat_map, sum, codes, decimal, IsUtf8}
use Rattle.std.specs.List.{AllByRecursion}
use Rattle.derivation.specs.declared.line.Line.{Line}
use Rattle.physical.specs.declared.plan.Node.{Node}
use Rattle.certificate_text.specs.Numerals.{numeral}
use Rattle.certificate_text.specs.PartTexts.{lacks}
use Rattle.certificate_text.specs.declared.fault.TextReason.{TextReason}
use Rattle.certificate_text.specs.declared.fault.TextReason.TheVariants.{OtherVersion, OtherForm, OutOfRange, BrokenOff, OverLimit}
use Rattle.certificate_text.specs.declared.fault.TextRefusal.{TextRefusal}
use Rattle.certificate_text.specs.CertificateText.{Text, ◌␣◌, ended, line_words, node_words}
use Rattle.certificate_text.specs.Limits.{most_lines, most_nodes, most_deep}
use Rattle.certificate_text.specs.Readable.{IsReadableLine, IsReadableNode}
use Rattle.certificate_read.specs.LineReading.{line_wording}
use Rattle.certificate_read.specs.NodeReading.{node_wording}
use Rattle.certificate_read.specs.TextReading.{IsBalanced}
use Rattle.certificate_read.specs.WordReading.{words_in}
use Rattle.certificate_read.specs.Wordings as wordings
use Rattle.certificate_read.specs.Wordings.{Wording}

-- ---- lines

-- the number of the line so many behind another, as far as 64 bits count
abbrev pub counted_on : ℕ → ℕ → ℕ
counted_on number zero = number
counted_on number (suc lines) = min (number + suc lines) (2 ^ 64 - 1)

-- the next line of what is left is broken off, or it is refused so
abbrev pub IsNextFault : (Text → TextReason → Type 0) → Text → ℕ → TextRefusal → Type 0
IsNextFault IsRefused left number r =
    (r.line ≡ counted_on number 1)
    × (((lacks 10 left ≡ true) × (r.reason ≡ BrokenOff)) ⊎ ((line : Text) × (rest : Text) × (left ≡ ended line ++ rest) × (lacks 10 line ≡ true) × IsRefused line r.reason))

-- so is the one behind these lines
abbrev pub IsFaultBehind : List Text → (Text → TextReason → Type 0) → Text → ℕ → TextRefusal → Type 0
IsFaultBehind lines IsRefused left number r = (rest : Text) × (left ≡ flat_map ended lines ++ rest) × IsNextFault IsRefused rest (counted_on number (length lines)) r

-- ---- why a line is refused

-- it isn't the line that is wanted there
abbrev pub IsNot : Text → TextReason → Text → TextReason → Type 0
IsNot wanted why line reason = (line ≡ wanted → ⊥) × (reason ≡ why)

-- its words aren't those of a value, or they are over a limit, or they are those of a value with a number past its range
abbrev pub RefusesLine : {X : Type 0} → Wording X → List Text → TextReason → Type 0
RefusesLine {X = X} W ws OtherForm = ((x : X) → W.Is x → ws ≡ W.words x → ⊥) × (W.IsOver ws → ⊥)
RefusesLine W ws OverLimit = W.IsOver ws
RefusesLine {X = X} W ws OutOfRange = (x : X) × (ws ≡ W.words x) × W.Is x × (W.IsInRange x → ⊥)
RefusesLine W ws OtherVersion = ⊥
RefusesLine W ws BrokenOff = ⊥

-- it is no text, or its words are refused
abbrev pub IsOther : {X : Type 0} → Wording X → Text → TextReason → Type 0
IsOther W line reason = ((IsUtf8 line → ⊥) × (reason ≡ OtherForm)) ⊎ (IsUtf8 line × RefusesLine W (words_in line) reason)

-- it isn't the word and a number that is at least so large, or the number is larger than may be
abbrev pub IsOtherCount : Text → ℕ → ℕ → Text → TextReason → Type 0
IsOtherCount word least most line reason =
    (((n : ℕ) → least ≤ n → line ≡ word ␣ numeral n → ⊥) × (reason ≡ OtherForm)) ⊎ ((n : ℕ) × (line ≡ word ␣ numeral n) × (most < n) × (reason ≡ OverLimit))

-- ---- the nodes of a plan, each before its inputs

-- How many inputs are wanted on each level, the deepest first, where some are. So many levels are from the root down to the next node.
abbrev pub some_wanted : List ℕ → List ℕ
some_wanted [] = []
some_wanted (zero ∷ ws) = some_wanted ws
some_wanted (suc w ∷ ws) = suc w ∷ ws

-- behind a node with so many inputs, which is an input on the deepest level
abbrev pub wanted_behind : ℕ → List ℕ → List ℕ
wanted_behind inputs [] = []
wanted_behind inputs (zero ∷ ws) = some_wanted (inputs ∷ zero ∷ ws)
wanted_behind inputs (suc w ∷ ws) = some_wanted (inputs ∷ w ∷ ws)

-- from so many nodes that are counted and inputs that are wanted, nodes lead to others. Each is within the limits, and behind it the plan can have its size
abbrev pub LeadsTo : List ℕ → ℕ → List (Node × ℕ) → List ℕ → ℕ → Type 0
LeadsTo ws counted [] after left = (ws ≡ after) × (counted ≡ left)
LeadsTo ws counted (n ∷ ns) after left =
    IsReadableNode n.0 n.1 × (0 < length ws) × (length ws ≤ most_deep) × IsBalanced (counted - 1) (sum (wanted_behind n.1 ws)) × LeadsTo (wanted_behind n.1 ws) (counted - 1) ns after left

abbrev pub nodes_words : List (Node × ℕ) → List Text
nodes_words ns = map (λ n. node_words n.0 n.1) ns

-- the next node isn't one, or isn't within the limits, or the plan can't have its size behind it
abbrev pub IsOtherNode : List ℕ → ℕ → Text → TextReason → Type 0
IsOtherNode ws counted line reason =
    IsOther (wordings.deep (nat_le (length ws) most_deep) node_wording) line reason
    ⊎ ((n : Node) × (inputs : ℕ) × (line ≡ node_words n inputs) × IsReadableNode n inputs × (length ws ≤ most_deep) × (IsBalanced (counted - 1) (sum (wanted_behind inputs ws)) → ⊥) × (reason ≡ OtherForm))

-- behind nodes of a plan
abbrev pub IsFaultOfNodes : List ℕ → ℕ → Text → ℕ → TextRefusal → Type 0
IsFaultOfNodes ws counted left number r = (ns : List (Node × ℕ)) × (after : List ℕ) × (more : ℕ) × LeadsTo ws counted ns after more × (0 < length after) × IsFaultBehind (nodes_words ns) (IsOtherNode after more) left number r

-- ---- the sections of a text

abbrev pub version : Text
version = codes "SQLPLAN 1"

abbrev pub derivation_lines : ℕ → List Line → List Text
derivation_lines count ls = (codes "lines" ␣ decimal count) ∷ map line_words ls

abbrev pub AreDerivation : List Line → Type 0
AreDerivation ls = AllByRecursion IsReadableLine ls × (length ls ≤ most_lines)

abbrev pub IsFaultOfDerivation : Text → ℕ → TextRefusal → Type 0
IsFaultOfDerivation left number r =
    IsNextFault (IsOtherCount (codes "lines") 0 most_lines) left number r
    ⊎ ((count : ℕ) × (ls : List Line) × AllByRecursion IsReadableLine ls × (length ls < count) × (count ≤ most_lines) × IsFaultBehind (derivation_lines count ls) (IsOther line_wording) left number r)

abbrev pub plan_lines : ℕ → List (Node × ℕ) → List Text
plan_lines count ns = (codes "plan" ␣ decimal count) ∷ nodes_words ns

-- nodes of a whole plan
abbrev pub ArePlan : ℕ → List (Node × ℕ) → Type 0
ArePlan count ns = (0 < count) × (count ≤ most_nodes) × LeadsTo (1 ∷ []) count ns [] 0

abbrev pub IsFaultOfPlan : Text → ℕ → TextRefusal → Type 0
IsFaultOfPlan left number r =
    IsNextFault (IsOtherCount (codes "plan") 1 most_nodes) left number r
    ⊎ ((count : ℕ) × (rest : Text) × (0 < count) × (count ≤ most_nodes) × (left ≡ ended (codes "plan" ␣ decimal count) ++ rest) × IsFaultOfNodes (1 ∷ []) count rest (counted_on number 1) r)

-- behind the plan stands the line that ends the text, and behind that nothing
abbrev pub IsFaultOfEnd : Text → ℕ → TextRefusal → Type 0
IsFaultOfEnd left number r =
    IsNextFault (IsNot (codes "end") OtherForm) left number r
    ⊎ ((rest : Text) × (left ≡ ended (codes "end") ++ rest) × (rest ≡ [] → ⊥) × (r ≡ record { line = counted_on number 2; reason = OtherForm }))

-- what is told of the text behind these lines
abbrev pub Behind : List Text → (Text → ℕ → TextRefusal → Type 0) → Text → ℕ → TextRefusal → Type 0
Behind lines Is left number r = (rest : Text) × (left ≡ flat_map ended lines ++ rest) × Is rest (counted_on number (length lines)) r

-- a fault of the plan or behind it
abbrev pub IsFaultToEnd : Text → ℕ → TextRefusal → Type 0
IsFaultToEnd left number r = IsFaultOfPlan left number r ⊎ ((count : ℕ) × (ns : List (Node × ℕ)) × ArePlan count ns × Behind (plan_lines count ns) IsFaultOfEnd left number r)

-- a fault of the derivation or behind it
abbrev pub IsFaultBehindVersion : Text → ℕ → TextRefusal → Type 0
IsFaultBehindVersion left number r = IsFaultOfDerivation left number r ⊎ ((ls : List Line) × AreDerivation ls × Behind (derivation_lines (length ls) ls) IsFaultToEnd left number r)

-- The first faulty line of a text: that of its version, or one behind it.
abbrev pub IsFirstFault : Text → TextRefusal → Type 0
IsFirstFault text r = IsNextFault (IsNot version OtherVersion) text 0 r ⊎ Behind (version ∷ []) IsFaultBehindVersion text 0 r
