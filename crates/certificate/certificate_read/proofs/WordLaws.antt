-- Numbers, columns and lists of one word are told by it.
use Rattle.std.proofs.Common.{◌≡◌, ℕ, List, [], ◌∷◌, ◌++◌, map, get_or, length, flat_map, drop, ◌<◌, refl, sym, ◌∙◌, ap, arith, codes}
use Rattle.std.specs.List.Sorted.{IsStrictlyIncreasing}
use Rattle.algebra.specs.AggregateOrder.{AreByColumn}
use Rattle.certificate_text.specs.Numerals.{numeral}
use Rattle.certificate_text.specs.Parts.{SpellsNumbers, IsShort, AreShort}
use Rattle.certificate_text.specs.Spelled.{AreShortAggregations}
use Rattle.certificate_text.specs.PartTexts.{numbers_text, aggregations_text}
use Rattle.certificate_text.proofs.AggregateLists.{aggregations_told}
use Rattle.certificate_text.proofs.Lacking.{lacks_at, numeral_lacks}
use Rattle.certificate_text.proofs.NumberLists.{parts_spelled}
use Rattle.certificate_text.proofs.Numerals.{numeral_injective, numeral_tested, form_nonempty}
use Rattle.certificate_text.specs.CertificateText.{Text}
use Rattle.certificate_read.specs.WordReading.{number_wording, numbers_wording, columns_wording, aggregations_wording, sides_wording}
use Rattle.certificate_read.specs.Wordings.{IsAny, IsNever}
use Rattle.certificate_read.proofs.WideConjuncts.{conjuncts_told}
use Rattle.certificate_read.proofs.Wordings.{AreTold, one_told, both_told}

-- ---- a list of numbers is spelled in one way

numerals_injective : (ms ns : List ℕ) → map numeral ms ≡ map numeral ns → ms ≡ ns
numerals_injective [] [] e = refl
numerals_injective [] (n ∷ ns) e = absurd (omega (arith, ap length e))
numerals_injective (m ∷ ms) [] e = absurd (omega (arith, ap length e))
numerals_injective (m ∷ ms) (n ∷ ns) e = λ i. numeral_injective m n (ap (λ ts. get_or ts 0 []) e) i ∷ numerals_injective ms ns (ap (λ ts. drop 1 ts) e) i

-- no list of some numbers is a dash
no_dash : (n : ℕ) (ns : List ℕ) → numbers_text (n ∷ ns) ≡ codes "-" → ⊥
no_dash n ns e = by (numeral n) refl where
  some : 0 < length (numeral n)
  some = form_nonempty (numeral n) (numeral_tested n)

  by : (w : Text) → numeral n ≡ w → ⊥
  by [] is = omega (arith, some, ap length is)
  by (b ∷ w) is = lacks_at 45 (numeral n) (numeral_lacks 45 n refl) 0 some (ap (λ w. get_or w 0 0) is ∙ ap (λ w. get_or w 0 0) (ap (λ v. v ++ flat_map (λ n. codes "," ++ numeral n) ns) (sym is) ∙ e))

numbers_injective : (w : Text) (ms ns : List ℕ) → SpellsNumbers w ms → SpellsNumbers w ns → ms ≡ ns
numbers_injective w [] [] e f = refl
numbers_injective w [] (n ∷ ns) e f = absurd (no_dash n ns (sym f ∙ e))
numbers_injective w (m ∷ ms) [] e f = absurd (no_dash m ms (sym e ∙ f))
numbers_injective w (m ∷ ms) (n ∷ ns) e f =
    let dash : w ≡ codes "-" → ⊥ = λ d. no_dash m ms (sym e ∙ d) in
    numerals_injective (m ∷ ms) (n ∷ ns) (sym (parts_spelled w (m ∷ ms) dash e) ∙ parts_spelled w (n ∷ ns) dash f)

-- ---- values of one word

pub number_told : AreTold number_wording
number_told = one_told numeral IsAny IsShort IsNever (λ x y h k e. numeral_injective x y e) (λ x h over. over)

pub numbers_told : AreTold numbers_wording
numbers_told = one_told numbers_text IsAny AreShort IsNever (λ x y h k e. numbers_injective (numbers_text x) x y refl e) (λ x h over. over)

pub columns_told : AreTold columns_wording
columns_told = one_told numbers_text IsStrictlyIncreasing AreShort IsNever (λ x y h k e. numbers_injective (numbers_text x) x y refl e) (λ x h over. over)

pub added_told : AreTold aggregations_wording
added_told = one_told aggregations_text AreByColumn AreShortAggregations IsNever (λ x y h k e. aggregations_told x y e) (λ x h over. over)

pub sides_told : AreTold sides_wording
sides_told = both_told conjuncts_told (both_told number_told number_told)
