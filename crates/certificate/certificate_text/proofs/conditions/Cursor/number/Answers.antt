use Rattle.std.proofs.Common.{ℕ, List}
use denote.Ref.{Bor}
use Rattle.certificate_text.specs.ConditionReading.{BeginsNumber, IsNever, Passes}
use Rattle.certificate_text.specs.Numerals.{numeral}
use Rattle.certificate_text.specs.Parts.{IsShort}
use Rattle.certificate_text.proofs.Exits.{holds_of_fault}
use Rattle.certificate_text.proofs.Passing.{number_unread, spells_number, value_fails, word_fails}
use Rattle.certificate_text.proofs.conditions.Cursor.number.Goals as goal

pub returns-in_err-word : goal.returns-in_err-word
returns-in_err-word c =
    holds_of_fault (Passes (BeginsNumber c.args.end) IsShort IsNever (λ (n : ℕ). n) c.args.self.now c.until.new.self) c.from_residual.result c.in_err-word.field-0.0 c.from_residual.ensures.1
    (word_fails (BeginsNumber c.args.end) IsShort (λ (n : ℕ). n) numeral (λ (n : ℕ). Unit {0}) c.args.end (spells_number c.args.end c.requires) (λ (w : Bor (List ℕ)). w.now) c.args.self.now c.until.new.self c.until.new.self c.in_err-word.field-0.0 c.in_err-word.ensures)

pub returns-in_err-number : goal.returns-in_err-number
returns-in_err-number c =
    holds_of_fault (Passes (BeginsNumber c.args.end) IsShort IsNever (λ (n : ℕ). n) c.args.self.now c.until.new.self) c.from_residual-in_err-number.result _ c.from_residual-in_err-number.ensures.1
    (value_fails (BeginsNumber c.args.end) IsShort (λ (n : ℕ). n) numeral (λ (n : ℕ). Unit {0}) c.args.end (spells_number c.args.end c.requires) c.in_ok-word.word.now c.args.self.now c.until.new.self c.until.new.self c.in_err-number.field-0.0 c.in_ok-word.ensures.0 c.in_ok-word.ensures.1
    (number_unread c.in_ok-word.word.now c.in_err-number.field-0.0 c.in_err-number.ensures))
