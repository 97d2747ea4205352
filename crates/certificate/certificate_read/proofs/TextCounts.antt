-- Counts, and why a line isn't one.
use Rattle.std.proofs.Common.{◌≡◌, true, refl, sym, subst, arith, ℕ, ◌<◌, ◌^◌, inl, inr, Err}
use Rattle.std.proofs.lemmas.Bool.{cases_lt}
use Rattle.std.specs.Prelude.{IsUtf8}
use Rattle.certificate_text.specs.Parts.{IsShort}
use Rattle.certificate_text.specs.PartTexts.{lacks}
use Rattle.certificate_text.specs.declared.fault.TextReason.{TextReason}
use Rattle.certificate_text.specs.declared.fault.TextReason.TheVariants.{OtherForm}
use Rattle.certificate_text.specs.CertificateText.{Text}
use Rattle.certificate_read.specs.declared.line_fault.LineFault.{LineFault}
use Rattle.certificate_read.specs.declared.line_fault.LineFault.TheVariants as line_fault
use Rattle.certificate_read.specs.declared.text_lines.TextLines.{TextLines}
use Rattle.certificate_read.specs.TextCalls.{PassesLine, ReadsCount, RefusesNext, text_fault_of}
use Rattle.certificate_read.specs.TextFaults.{IsOtherCount}
use Rattle.certificate_read.specs.TextReading.{IsWord}
use Rattle.certificate_read.proofs.TextCuts.{wide_count_line}

pub large : (most n : ℕ) → IsShort most → (IsShort n → ⊥) → most < n
large most n short past = elim (cases_lt n (2 ^ 32)) [
  | inl l ↦ absurd (past l)
  | inr l ↦ omega (arith, l, short)
]

-- a line that is no text is no count
pub text_count : (word : Text) (most : ℕ) → IsWord word → (line : Text) (reason : TextReason) → (IsUtf8 line → ⊥) × (reason ≡ OtherForm) → IsOtherCount word 0 most line reason
text_count word most h line reason other = inl ((λ n least e. other.0 (subst IsUtf8 (sym e) (wide_count_line word n h).0)), other.1)

pub count_refused : (word : Text) (most : ℕ) (line : Text) (old new : TextLines) (fault : LineFault) → PassesLine line old new → lacks 10 line ≡ true → ReadsCount word most line (Err fault) → RefusesNext (IsOtherCount word 0 most) old (text_fault_of fault new.number)
count_refused word most line old new line_fault.Memory passed free h = h
count_refused word most line old new line_fault.OutOfRange passed free h = absurd h
count_refused word most line old new line_fault.OtherForm passed free h = (passed.1, inr (line, new.left.now, passed.0, free, inl ((λ n least e. h n e), refl)))
count_refused word most line old new line_fault.OverLimit passed free h = (passed.1, inr (line, new.left.now, passed.0, free, inr (h.0, h.1, h.2, refl)))
