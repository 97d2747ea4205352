-- Words that are numbers, as they are read.
use Rattle.std.proofs.Common.{◌≡◌, ℕ, ◌<◌, ◌^◌, length, true, false, Result, Ok, Err, Option, Some, None, sym, ◌∙◌, ap, subst}
use Rattle.std.proofs.lemmas.Bool.{false≢true}
use Rattle.std.proofs.lemmas.Str.Parse.{IsNumeralModel, numerals_by_value, tells_digits, parse_digits}
use Rattle.std.specs.Result.{result_ok, OkIff}
use Rattle.std.specs.Str.Parse.{AllDigits, ParsesUnsigned, digits_value}
use Rattle.certificate_text.specs.PartTexts.{Text}
use Rattle.certificate_text.specs.Numerals.{numeral, has_numeral_form}
use Rattle.certificate_text.specs.Parts.{IsRead, SpellsNumber, IsShort}
use Rattle.certificate_text.proofs.Numerals.{tested_numeral, numeral_tested, numeral_injective, form_digits, form_nonempty}
use Rattle.certificate_text.specs.declared.part_fault.PartReason.{PartReason}
use Rattle.certificate_text.specs.declared.part_fault.PartReason.TheVariants.{OtherForm, OverLimit}

own : IsNumeralModel (AllDigits 10) (digits_value 10)
own = numerals_by_value (AllDigits 10) tells_digits

-- a numeral is parsed where it is within 32 bits
pub numeral_read : {E : Type 0} → (w : Text) (r : Result ℕ E) → has_numeral_form w ≡ true → ParsesUnsigned 32 10 w r → IsRead SpellsNumber IsShort w (Ok (result_ok r))
numeral_read {E} w r h p = one r (parse_digits own 32 w r p (form_digits w h)) where
  one : (r : Result ℕ E) → OkIff r ((0 < length w) × (digits_value 10 w < 2 ^ 32)) (digits_value 10 w) → IsRead SpellsNumber IsShort w (Ok (result_ok r))
  one (Ok n) q = (tested_numeral w h ∙ ap numeral (sym q.1), subst (λ n. n < 2 ^ 32) (sym q.1) q.0.1)
  one (Err e) q = (digits_value 10 w, tested_numeral w h, λ l. q (form_nonempty w h, l))

pub no_numeral : (w : Text) → has_numeral_form w ≡ false → (n : ℕ) → SpellsNumber w n → ⊥
no_numeral w h n e = false≢true (sym h ∙ ap has_numeral_form e ∙ numeral_tested n)

-- ---- of a text that spells a number of 32 bits

pub short_given : (w : Text) (n : ℕ) (r : Option ℕ) → IsRead SpellsNumber IsShort w (Ok r) → w ≡ numeral n → IsShort n → r ≡ Some n
short_given w n (Some m) h e s = ap Some (numeral_injective m n (sym h.0 ∙ e))
short_given w n None h e s = absurd (h.2 (subst IsShort (numeral_injective n h.0 (sym e ∙ h.1)) s))

pub number_given : (w : Text) (n : ℕ) (r : Result (Option ℕ) PartReason) → IsRead SpellsNumber IsShort w r → w ≡ numeral n → IsShort n → r ≡ Ok (Some n)
number_given w n (Ok r) h e s = ap Ok (short_given w n r h e s)
number_given w n (Err OtherForm) h e s = absurd (h n e)
number_given w n (Err OverLimit) h e s = absurd h
