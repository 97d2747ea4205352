-- How labels are spelled by words, and what a call reads of their lines. The first faulty line of a text.
use Rattle.std.specs.Prelude.{◌⊎◌, ℕ, ◌<◌, ◌≤◌, List, ◌∷◌, length, map, codes, decimal, Result, MatchResult}
use Rattle.std.specs.List.{AllByRecursion}
use Rattle.values.specs.declared.fault.Fault.{Fault}
use Rattle.values.specs.declared.fault.Fault.TheVariants.{Memory, Refused}
use Rattle.certificate.specs.declared.certificate.Certificate.{Certificate}
use Rattle.physical.specs.declared.plan.OrderKey.{OrderKey}
use Rattle.certificate_text.specs.Numerals.{numeral}
use Rattle.certificate_text.specs.Readable.{IsReadableCertificate}
use Rattle.certificate_text.specs.declared.fault.TextRefusal.{TextRefusal}
use Rattle.certificate_text.specs.CertificateText.{Text, ◌␣◌}
use Rattle.certificate_read.specs.Fronts.{IsFront, line_count}
use Rattle.certificate_read.specs.NodeReading.{keys_wording}
use Rattle.certificate_read.specs.TextCalls.{PassesLine, PassesLines, RefusesFrom}
use Rattle.certificate_read.specs.TextFaults.{Behind, IsFaultBehind, IsFaultOfEnd, IsFirstFault, IsNextFault, IsOther, IsOtherCount}
use Rattle.certificate_read.specs.WordReading.{number_wording}
use Rattle.certificate_read.specs.Wordings as wordings
use Rattle.certificate_read.specs.Wordings.{Wording, one, by_parts, IsAny, IsNever}
use Rattle.certificate_read.specs.declared.text_lines.TextLines.{TextLines}
use Rattle.labels.specs.declared.goal.Label.{Label}
use Rattle.label_text.specs.LabelText.{label_words, most_labels, IsCost, IsReadableLabel}

abbrev pub cost_wording : Wording ℕ
cost_wording = one numeral IsAny IsCost IsNever

-- class, order and cost
abbrev pub LabelParts : Type 0
LabelParts = ℕ × (List OrderKey × ℕ)

abbrev pub parts_wording : Wording LabelParts
parts_wording = wordings.◌␣◌ number_wording (wordings.◌␣◌ keys_wording cost_wording)

abbrev pub label_parts : Label → LabelParts
label_parts l = (l.goal.class, (l.goal.order, l.cost))

abbrev pub label_wording : Wording Label
label_wording = by_parts label_parts parts_wording

-- ---- lines

abbrev pub label_lines : ℕ → List Label → List Text
label_lines count labels = (codes "labels" ␣ decimal count) ∷ map label_words labels

-- labels that can be read, as many as may be
abbrev pub AreLabels : List Label → Type 0
AreLabels labels = AllByRecursion IsReadableLabel labels × (length labels ≤ most_labels)

-- the next label isn't read, or the one behind so many, or there is another line than that of their count
abbrev pub IsFaultOfLabels : Text → ℕ → TextRefusal → Type 0
IsFaultOfLabels left number r =
    IsNextFault (IsOtherCount (codes "labels") 0 most_labels) left number r
    ⊎ ((count : ℕ) × (ls : List Label) × AllByRecursion IsReadableLabel ls × (length ls < count) × (count ≤ most_labels) × IsFaultBehind (label_lines count ls) (IsOther label_wording) left number r)

-- a fault of the labels, or behind them
abbrev pub IsFaultToEnd : Text → ℕ → TextRefusal → Type 0
IsFaultToEnd left number r = IsFaultOfLabels left number r ⊎ ((ls : List Label) × AreLabels ls × Behind (label_lines (length ls) ls) IsFaultOfEnd left number r)

-- no certificate that can be read has a text with which this one begins
abbrev pub HasNoFront : Text → Type 0
HasNoFront text = (c : Certificate) (rest : Text) → IsReadableCertificate c → IsFront c rest text → ⊥

-- The first faulty line: that of the certificate, or one behind it.
abbrev pub IsLeastFault : Text → TextRefusal → Type 0
IsLeastFault text r = (IsFirstFault text r × HasNoFront text) ⊎ ((c : Certificate) × (rest : Text) × IsFront c rest text × IsFaultToEnd rest (line_count c) r)

-- ---- what a call reads

abbrev pub PassesLabel : TextLines → TextLines → Result Label (Fault TextRefusal) → Type 0
PassesLabel old new result = MatchResult result (λ l. PassesLine (label_words l) old new × IsReadableLabel l) (λ fault. RefusesFrom (IsNextFault (IsOther label_wording)) old fault)

abbrev pub PassesLabels : TextLines → TextLines → Result (List Label) (Fault TextRefusal) → Type 0
PassesLabels old new result = MatchResult result (λ ls. PassesLines (label_lines (length ls) ls) old new × AreLabels ls) (λ fault. RefusesFrom IsFaultOfLabels old fault)

-- the text is refused at its first faulty line, unless memory runs out
abbrev pub RefusesLeast : Text → Fault TextRefusal → Type 0
RefusesLeast text Memory = Unit {0}
RefusesLeast text (Refused r) = IsLeastFault text r
