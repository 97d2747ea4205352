-- Costs as words, of up to 64 bits.
use Rattle.std.proofs.Common.{◌≡◌, ℕ, ◌<◌, ◌^◌, true, [], ◌∷◌, Result, Ok, Err, length, sym, ◌∙◌, ap, subst, decimal}
use Rattle.std.proofs.lemmas.Str.Parse.{IsNumeralModel, numerals_by_value, tells_digits, parse_digits}
use Rattle.std.specs.List.{list_all}
use Rattle.std.specs.Result.{result_ok, OkIff}
use Rattle.std.specs.Str.Parse.{AllDigits, ParsesUnsigned, digits_value}
use Rattle.certificate_text.specs.PartTexts.{Text, is_graphic}
use Rattle.certificate_text.specs.Numerals.{numeral, has_numeral_form}
use Rattle.certificate_text.specs.Parts.{IsRead, SpellsNumber}
use Rattle.certificate_text.proofs.DecimalNumerals.{numeral-decimal}
use Rattle.certificate_text.proofs.Numerals.{tested_numeral, numeral_injective, form_digits, form_nonempty}
use Rattle.certificate_read.specs.Wordings.{IsAny, IsNever}
use Rattle.certificate_read.proofs.LineTexts.{IsPart, numeral_graphic, other_word}
use Rattle.certificate_read.proofs.Wordings.{AreTold, one_told}
use Rattle.label_text.specs.LabelReading.{cost_wording}
use Rattle.label_text.specs.LabelText.{IsCost}

own : IsNumeralModel (AllDigits 10) (digits_value 10)
own = numerals_by_value (AllDigits 10) tells_digits

-- a numeral is parsed where it is within 64 bits
pub cost_read : {E : Type 0} → (w : Text) (r : Result ℕ E) → has_numeral_form w ≡ true → ParsesUnsigned 64 10 w r → IsRead SpellsNumber IsCost w (Ok (result_ok r))
cost_read {E} w r h p = one r (parse_digits own 64 w r p (form_digits w h)) where
  one : (r : Result ℕ E) → OkIff r ((0 < length w) × (digits_value 10 w < 2 ^ 64)) (digits_value 10 w) → IsRead SpellsNumber IsCost w (Ok (result_ok r))
  one (Ok n) q = (tested_numeral w h ∙ ap numeral (sym q.1), subst IsCost (sym q.1) q.0.1)
  one (Err e) q = (digits_value 10 w, tested_numeral w h, λ l. q (form_nonempty w h, l))

pub cost_told : AreTold cost_wording
cost_told = one_told numeral IsAny IsCost IsNever (λ x y h k e. numeral_injective x y e) (λ x h over. over)

pub cost_part : (n : ℕ) → IsCost n → IsPart (decimal n) (numeral n ∷ [])
cost_part n small =
    let same : decimal n ≡ numeral n = sym (numeral-decimal n small) in
    other_word (decimal n) (numeral n) same (ap (list_all is_graphic) same ∙ numeral_graphic n)
