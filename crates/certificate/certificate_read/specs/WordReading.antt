-- Numbers and lists as words of a line, with numbers of any size.
use Rattle.std.specs.Prelude.{◌≡◌, ◌==◌, ℕ, List, Result, MatchResult}
use Rattle.std.specs.List.{slice_split}
use Rattle.std.specs.List.Sorted.{IsStrictlyIncreasing}
use Rattle.algebra.specs.declared.condition.Condition.{Condition}
use Rattle.algebra.specs.declared.expr.Aggregation.{Aggregation}
use Rattle.algebra.specs.AggregateOrder.{AreByColumn}
use Rattle.certificate_text.specs.ListReading.{part_conjuncts_text, AreConjunctsWithin, AreShortConditions, IsListTooDeep}
use Rattle.certificate_text.specs.Numerals.{numeral}
use Rattle.certificate_text.specs.Parts.{IsShort, AreShort}
use Rattle.certificate_text.specs.PartTexts.{numbers_text, aggregations_text}
use Rattle.certificate_text.specs.Spelled.{AreShortAggregations}
use Rattle.certificate_text.specs.CertificateText.{Text}
use Rattle.certificate_text.specs.Limits.{most_nested}
use Rattle.certificate_read.specs.declared.line_fault.LineFault.{LineFault}
use Rattle.certificate_read.specs.declared.line_fault.LineFault.TheVariants.{Memory}
use Rattle.certificate_read.specs.Wordings.{Wording, ◌␣◌, one, IsAny, IsNever}

-- the fact holds of what the call gives, unless memory ran out
abbrev pub UnlessMemory : {V : Type 0} → (V → Type 0) → Result V LineFault → Type 0
UnlessMemory P result = MatchResult result P (λ fault. fault ≡ Memory)

-- the words of a line, which single spaces stand between
abbrev pub words_in : Text → List Text
words_in line = slice_split (λ b. b == 32) line

abbrev pub number_wording : Wording ℕ
number_wording = one numeral IsAny IsShort IsNever

abbrev pub numbers_wording : Wording (List ℕ)
numbers_wording = one numbers_text IsAny AreShort IsNever

-- columns rise strictly
abbrev pub columns_wording : Wording (List ℕ)
columns_wording = one numbers_text IsStrictlyIncreasing AreShort IsNever

abbrev pub aggregations_wording : Wording (List Aggregation)
aggregations_wording = one aggregations_text AreByColumn AreShortAggregations IsNever

abbrev pub conjuncts_wording : Wording (List Condition)
conjuncts_wording = one part_conjuncts_text (AreConjunctsWithin most_nested) AreShortConditions (IsListTooDeep most_nested)

-- the conditions and the two classes of a join
abbrev pub Sides : Type 0
Sides = List Condition × (ℕ × ℕ)

abbrev pub sides_wording : Wording Sides
sides_wording = conjuncts_wording ␣ number_wording ␣ number_wording
