-- What a call reads of the lines of any text.
use Rattle.std.specs.Prelude.{◌≡◌, ℕ, suc, ◌+◌, ◌-◌, ◌<◌, ◌≤◌, true, List, ◌∷◌, ◌++◌, length, flat_map, sum, codes, Result, Ok, Err, Bool, Option, Some, None, MatchBool, MatchResult, IsUtf8}
use Rattle.std.specs.List.{AllByRecursion}
use Rattle.values.specs.declared.fault.Fault.{Fault}
use Rattle.values.specs.declared.fault.Fault.TheVariants.{Memory, Refused}
use Rattle.derivation.specs.declared.line.Line.{Line}
use Rattle.physical.specs.declared.plan.Node.{Node}
use Rattle.physical.specs.declared.plan.Plan.{Plan}
use Rattle.certificate.specs.NodeInputs.{nodes_of}
use Rattle.certificate_text.specs.Numerals.{numeral}
use Rattle.certificate_text.specs.PartTexts.{lacks}
use Rattle.certificate_text.specs.declared.fault.TextReason.{TextReason}
use Rattle.certificate_text.specs.declared.fault.TextReason.TheVariants.{OtherForm, OutOfRange, OverLimit}
use Rattle.certificate_text.specs.declared.fault.TextRefusal.{TextRefusal}
use Rattle.certificate_text.specs.CertificateText.{Text, ◌␣◌, ended, line_words, node_count, node_words}
use Rattle.certificate_text.specs.Limits.{most_nodes, most_deep}
use Rattle.certificate_text.specs.Readable.{IsReadableLine, IsReadableNode}
use Rattle.certificate_read.specs.declared.line_fault.LineFault.{LineFault}
use Rattle.certificate_read.specs.declared.line_fault.LineFault.TheVariants as line_fault
use Rattle.certificate_read.specs.declared.nodes.ReadNode.{ReadNode}
use Rattle.certificate_read.specs.declared.reading.Wanted.{Wanted}
use Rattle.certificate_read.specs.declared.text_lines.TextLines.{TextLines}
use Rattle.certificate_read.specs.LineReading.{line_wording}
use Rattle.certificate_read.specs.NodeReading.{node_wording}
use Rattle.certificate_read.specs.TextFaults.{counted_on, derivation_lines, nodes_words, plan_lines, some_wanted, wanted_behind, AreDerivation, ArePlan, IsFaultOfDerivation, IsFaultOfEnd, IsFaultOfNodes, IsFaultOfPlan, IsFaultToEnd, IsFirstFault, IsNextFault, IsNot, IsOther, IsOtherCount, IsOtherNode, LeadsTo}
use Rattle.certificate_read.specs.TextReading.{IsBalanced, IsReadablePlan}
use Rattle.certificate_read.specs.Wordings as wordings
use Rattle.certificate_read.specs.Wordings.{Wording}

-- ---- lines

-- the call passes this line
abbrev pub PassesLine : Text → TextLines → TextLines → Type 0
PassesLine line old new = (old.left.now ≡ ended line ++ new.left.now) × (new.number ≡ counted_on old.number 1)

-- the call passes these lines
abbrev pub PassesLines : List Text → TextLines → TextLines → Type 0
PassesLines lines old new = (old.left.now ≡ flat_map ended lines ++ new.left.now) × (new.number ≡ counted_on old.number (length lines))

-- ---- faults

abbrev pub refused : ℕ → TextReason → Fault TextRefusal
refused line reason = Refused (record { line = line; reason = reason })

-- nothing where memory ran out
abbrev pub reason_of : LineFault → Option TextReason
reason_of line_fault.Memory = None
reason_of line_fault.OtherForm = Some OtherForm
reason_of line_fault.OutOfRange = Some OutOfRange
reason_of line_fault.OverLimit = Some OverLimit

-- the fault of a line as one of the text
abbrev pub fault_for : Option TextReason → ℕ → Fault TextRefusal
fault_for None line = Memory
fault_for (Some reason) line = refused line reason

abbrev pub text_fault_of : LineFault → ℕ → Fault TextRefusal
text_fault_of fault line = fault_for (reason_of fault) line

-- ---- what a call reads of the next line

-- the call refuses the next line so, and does nothing else
abbrev pub RefusesNext : (Text → TextReason → Type 0) → TextLines → Fault TextRefusal → Type 0
RefusesNext IsRefused old Memory = ⊥
RefusesNext IsRefused old (Refused r) = IsNextFault IsRefused old.left.now old.number r

-- the call passes the next line, as view shows it, which may only be broken off
abbrev pub ReadsBytes : {V : Type 0} → (V → Text) → TextLines → TextLines → Result V (Fault TextRefusal) → Type 0
ReadsBytes view old new result = MatchResult result (λ l. PassesLine (view l) old new × (lacks 10 (view l) ≡ true)) (λ fault. RefusesNext (λ line reason. ⊥) old fault)

-- the same of a line that is to be text
abbrev pub ReadsText : {V : Type 0} → (V → Text) → TextLines → TextLines → Result V (Fault TextRefusal) → Type 0
ReadsText view old new result = MatchResult result (λ l. PassesLine (view l) old new × (lacks 10 (view l) ≡ true) × IsUtf8 (view l)) (λ fault. RefusesNext (λ line reason. (IsUtf8 line → ⊥) × (reason ≡ OtherForm)) old fault)

-- the call passes a line that is known
abbrev pub Finds : Text → TextReason → TextLines → TextLines → Result Unit (Fault TextRefusal) → Type 0
Finds line why old new result = MatchResult result (λ u. PassesLine line old new) (λ fault. RefusesNext (IsNot line why) old fault)

-- ---- a count, on a line of its own

-- whether a line is the word and a number that is at most so large
abbrev pub ReadsCount : Text → ℕ → Text → Result ℕ LineFault → Type 0
ReadsCount word most line (Ok n) = (line ≡ word ␣ numeral n) × (n ≤ most)
ReadsCount word most line (Err line_fault.OtherForm) = (n : ℕ) → line ≡ word ␣ numeral n → ⊥
ReadsCount word most line (Err line_fault.OverLimit) = (n : ℕ) × (line ≡ word ␣ numeral n) × (most < n)
ReadsCount word most line (Err line_fault.Memory) = ⊥
ReadsCount word most line (Err line_fault.OutOfRange) = ⊥

abbrev pub PassesCount : Text → ℕ → TextLines → TextLines → Result ℕ (Fault TextRefusal) → Type 0
PassesCount word most old new result = MatchResult result (λ n. PassesLine (word ␣ numeral n) old new × (n ≤ most)) (λ fault. RefusesNext (IsOtherCount word 0 most) old fault)

-- ---- lines of a derivation

-- the call refuses the text so, unless memory runs out
abbrev pub RefusesFrom : (Text → ℕ → TextRefusal → Type 0) → TextLines → Fault TextRefusal → Type 0
RefusesFrom Is old Memory = Unit {0}
RefusesFrom Is old (Refused r) = Is old.left.now old.number r

abbrev pub PassesDerivationLine : TextLines → TextLines → Result Line (Fault TextRefusal) → Type 0
PassesDerivationLine old new result = MatchResult result (λ l. PassesLine (line_words l) old new × IsReadableLine l) (λ fault. RefusesFrom (IsNextFault (IsOther line_wording)) old fault)

abbrev pub PassesDerivation : TextLines → TextLines → Result (List Line) (Fault TextRefusal) → Type 0
PassesDerivation old new result = MatchResult result (λ ls. PassesLines (derivation_lines (length ls) ls) old new × AreDerivation ls) (λ fault. RefusesFrom IsFaultOfDerivation old fault)

-- ---- nodes of a plan

abbrev pub PassesNode : Bool → TextLines → TextLines → Result ReadNode (Fault TextRefusal) → Type 0
PassesNode is_within old new result =
    MatchResult result (λ r. PassesLine (node_words r.node r.inputs) old new × IsReadableNode r.node r.inputs × (is_within ≡ true)) (λ fault. RefusesFrom (IsNextFault (IsOther (wordings.deep is_within node_wording))) old fault)

-- What is wanted before a node where so many nodes may stand from it down: an input on the deepest level at least, and so many in all. What is counted
-- is within the limit.
abbrev pub IsBefore : List ℕ → ℕ → Wanted → Type 0
IsBefore ws room w = (w.inputs ≡ sum ws) × (room + length ws ≡ most_deep + 1) × (w.inputs ≤ w.counted) × (w.counted ≤ most_nodes)

-- the call takes a node with so many inputs
abbrev pub Takes : ℕ → Wanted → Wanted → Bool → Type 0
Takes inputs old new result =
    (new.counted ≡ old.counted - 1) × (new.inputs ≡ (old.inputs - 1) + inputs) × MatchBool result (IsBalanced (old.counted - 1) ((old.inputs - 1) + inputs)) (IsBalanced (old.counted - 1) ((old.inputs - 1) + inputs) → ⊥)

-- the call passes a node behind which the plan can have its size
abbrev pub PassesNodeOf : ℕ → List ℕ → Wanted → Wanted → TextLines → TextLines → Result ReadNode (Fault TextRefusal) → Type 0
PassesNodeOf w ws before after old new result =
    MatchResult result (λ r. PassesLine (node_words r.node r.inputs) old new × IsReadableNode r.node r.inputs × (length (suc w ∷ ws) ≤ most_deep) × IsBalanced (before.counted - 1) (sum (wanted_behind r.inputs (suc w ∷ ws)))
    × (after.counted ≡ before.counted - 1) × (after.inputs ≡ sum (r.inputs ∷ w ∷ ws)))
    (λ fault. RefusesFrom (IsNextFault (IsOtherNode (suc w ∷ ws) before.counted)) old fault)

-- the call passes nodes from some that are wanted to others
abbrev pub PassesNodes : List ℕ → List ℕ → Wanted → Wanted → TextLines → TextLines → List (Node × ℕ) → Type 0
PassesNodes wanted behind before after old new ns = PassesLines (nodes_words ns) old new × LeadsTo wanted before.counted ns behind after.counted × (after.inputs ≡ sum behind)

-- a plan, whose root is an input on the deepest level
abbrev pub PassesPlan : ℕ → ℕ → List ℕ → Wanted → Wanted → TextLines → TextLines → Result Plan (Fault TextRefusal) → Type 0
PassesPlan room w ws before after old new result =
    MatchResult result (λ p. PassesNodes (suc w ∷ ws) (some_wanted (w ∷ ws)) before after old new (nodes_of p) × IsReadablePlan room p) (λ fault. RefusesFrom (IsFaultOfNodes (suc w ∷ ws) before.counted) old fault)

-- the inputs of a node, one behind the other
abbrev pub PassesInputs : ℕ → ℕ → ℕ → List ℕ → Wanted → Wanted → TextLines → TextLines → Result (List Plan) (Fault TextRefusal) → Type 0
PassesInputs room count w ws before after old new result =
    MatchResult result (λ ps. PassesNodes (some_wanted (count ∷ w ∷ ws)) (some_wanted (w ∷ ws)) before after old new (flat_map nodes_of ps) × AllByRecursion (IsReadablePlan (room - 1)) ps × (length ps ≡ count))
    (λ fault. RefusesFrom (IsFaultOfNodes (some_wanted (count ∷ w ∷ ws)) before.counted) old fault)

-- the whole plan
abbrev pub PassesWholePlan : TextLines → TextLines → Result Plan (Fault TextRefusal) → Type 0
PassesWholePlan old new result =
    MatchResult result (λ p. PassesLines (plan_lines (node_count p) (nodes_of p)) old new × ArePlan (node_count p) (nodes_of p) × IsReadablePlan most_deep p) (λ fault. RefusesFrom IsFaultOfPlan old fault)

-- ---- the end

-- the text ends where the call is made
abbrev pub Ends : TextLines → Result Unit (Fault TextRefusal) → Type 0
Ends old (Ok u) = old.left.now ≡ ended (codes "end")
Ends old (Err Memory) = ⊥
Ends old (Err (Refused r)) = IsFaultOfEnd old.left.now old.number r

-- the plan behind which the text ends
abbrev pub PassesLastPlan : TextLines → Result Plan (Fault TextRefusal) → Type 0
PassesLastPlan old result =
    MatchResult result (λ p. (old.left.now ≡ flat_map ended (plan_lines (node_count p) (nodes_of p)) ++ ended (codes "end")) × ArePlan (node_count p) (nodes_of p) × IsReadablePlan most_deep p) (λ fault. RefusesFrom IsFaultToEnd old fault)

-- the text is refused at its first faulty line, unless memory runs out
abbrev pub RefusesText : Text → Fault TextRefusal → Type 0
RefusesText text Memory = Unit {0}
RefusesText text (Refused r) = IsFirstFault text r
