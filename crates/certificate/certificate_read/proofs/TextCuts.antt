-- A text is cut behind a line, at the first LF.
use Rattle.std.proofs.Common.{◌≡◌, refl, sym, subst, inl, inr, ◌⊎◌, ap, ◌∙◌, arith, ℕ, ◌+◌, ◌-◌, ◌==◌, Bool, true, false, not, ◌&&◌, get_or, cond, nat_lt, [], ◌∷◌, ◌++◌, length, take, drop, append_assoc, Option, Some, None, Result, Ok, decimal}
use denote.Ref.{Bor}
use Rattle.std.proofs.Math.Seq.{take-append_seam, drop-append-add, get_or-append_seam}
use Rattle.std.proofs.lemmas.Bool.{eqb-true, lt-ltb}
use Rattle.std.proofs.lemmas.List.{get_or_append_left, length-append, take_all}
use Rattle.std.proofs.lemmas.List.Quantifiers.{position-Some}
use Rattle.std.proofs.lemmas.List.Sums.{position_or_len_is}
use Rattle.std.proofs.lemmas.Str.Pattern.{IsSplitOnceResult, split_parts}
use Rattle.std.specs.List.{position, position_or_len}
use Rattle.certificate_text.specs.declared.part_fault.PartReason.{PartReason}
use Rattle.certificate_text.specs.Numerals.{numeral}
use Rattle.certificate_text.specs.Parts.{IsRead, IsShort, SpellsNumber}
use Rattle.certificate_text.specs.PartTexts.{lacks}
use Rattle.certificate_text.proofs.AggregateParts.{cut_at}
use Rattle.certificate_text.proofs.DecimalNumerals.{short_decimal}
use Rattle.certificate_text.proofs.Exits.{not_none, same_some}
use Rattle.certificate_text.proofs.Lacking.{each_lacks, lacks_at}
use Rattle.certificate_text.proofs.NumberParts.{number_given}
use Rattle.certificate_text.specs.CertificateText.{Text, ended}
use Rattle.certificate_read.specs.TextReading.{IsLine, IsWord}
use Rattle.certificate_read.proofs.LineTexts.{numeral_graphic, both_parts, one_word, number_part, part_line}

abbrev is_end : ℕ → Bool
is_end b = b == 10

module _ (line rest now : Text) (free : lacks 10 line ≡ true) (e : now ≡ ended line ++ rest) where
  whole : now ≡ line ++ (10 ∷ rest)
  whole = e ∙ append_assoc line (10 ∷ []) rest

  first : position_or_len is_end (line ++ (10 ∷ rest)) ≡ length line
  first =
      position_or_len_is is_end (line ++ (10 ∷ rest)) (length line) 0 (omega (arith, length-append line (10 ∷ rest)))
      (λ k below. ap is_end (get_or_append_left line (10 ∷ rest) 0 k below) ∙ each_lacks 10 line free k 0 below)
      (λ within. ap is_end (get_or-append_seam line 10 rest 0))

  found : position is_end now ≡ Some (length line)
  found =
      let within = lt-ltb (length line) (length (line ++ (10 ∷ rest))) (omega (arith, length-append line (10 ∷ rest))) in
      ap (position is_end) whole
      ∙ (λ i. cond (nat_lt (first i) (length (line ++ (10 ∷ rest)))) (Some (first i)) None)
      ∙ ap (λ b. cond b (Some (length line)) None) within

  pub line_cut_off : (r : Option ℕ) (end : ℕ) → r ≡ position is_end now → r ≡ Some end → (take end now ≡ line) × (take (length now - (end + 1)) (drop (end + 1) now) ≡ rest)
  line_cut_off r end given is =
      let at : end ≡ length line = same_some r end (length line) is (given ∙ found) in
      let behind : drop (end + 1) now ≡ rest = (λ i. drop (at i + 1) (whole i)) ∙ drop-append-add line (10 ∷ rest) 1 in (
        (λ i. take (at i) (whole i)) ∙ take-append_seam line (10 ∷ rest),
        take_all (length now - (end + 1)) (drop (end + 1) now) (omega (arith, at, ap length behind, ap length whole, length-append line (10 ∷ rest))) ∙ behind,
      )

  pub line_not_missing : (r : Option ℕ) → r ≡ position is_end now → r ≡ None → ⊥
  line_not_missing r given none = not_none r (length line) none (given ∙ found)

-- a text has no LF, or begins with a line
pub first_line : (now : Text) → (lacks 10 now ≡ true) ⊎ ((line : Text) × (rest : Text) × (lacks 10 line ≡ true) × (now ≡ ended line ++ rest))
first_line [] = inl refl
first_line (b ∷ now) = by (b == 10) refl (first_line now) where
  by : (same : Bool) → (b == 10) ≡ same → (lacks 10 now ≡ true) ⊎ ((line : Text) × (rest : Text) × (lacks 10 line ≡ true) × (now ≡ ended line ++ rest)) → (lacks 10 (b ∷ now) ≡ true) ⊎ ((line : Text) × (rest : Text) × (lacks 10 line ≡ true) × (b ∷ now ≡ ended line ++ rest))
  by true e more = inr ([], now, refl, ap (λ b. b ∷ now) (eqb-true b 10 e))
  by false e (inl free) = inl (λ i. not (e i) && free i)
  by false e (inr it) = inr (b ∷ it.0, it.1, (λ i. not (e i) && it.2 i), ap (λ t. b ∷ t) it.3)

module _ (now : Text) (r : Option ℕ) (given : r ≡ position is_end now) where
  pub line_read : (end : ℕ) → r ≡ Some end → (now ≡ ended (take end now) ++ take (length now - (end + 1)) (drop (end + 1) now)) × (lacks 10 (take end now) ≡ true)
  line_read end is = elim (first_line now) [
    | inl free ↦ absurd (let at = position-Some is_end now end 0 (sym given ∙ is) in lacks_at 10 now free end at.0 (eqb-true (get_or now end 0) 10 at.1))
    | inr it ↦
        let cut = line_cut_off it.0 it.1 now it.2 it.3 r end given is in
        (it.3 ∙ (λ i. ended (sym cut.0 i) ++ sym cut.1 i), subst (λ t. lacks 10 t ≡ true) (sym cut.0) it.2)
  ]

  pub line_missing : r ≡ None → lacks 10 now ≡ true
  line_missing none = elim (first_line now) [
    | inl free ↦ free
    | inr it ↦ absurd (line_not_missing it.0 it.1 now it.2 it.3 r given none)
  ]

-- ---- counts

pub count_line : (word : Text) (n : ℕ) → IsWord word → IsShort n → IsLine (word ++ (32 ∷ decimal n))
count_line word n h s = part_line _ _ (both_parts _ _ _ _ (one_word word h) (number_part n s))

module _ (word : Text) (n : ℕ) (line : Text) (free : lacks 32 word ≡ true) (short : IsShort n) (e : line ≡ word ++ (32 ∷ decimal n)) where
  pub count_uncut : IsSplitOnceResult 32 line None → ⊥
  count_uncut cut = cut_at 32 line word (decimal n) None cut (omega arith) free e

  pub count_word : (x : Bor Text × Bor Text) → IsSplitOnceResult 32 line (Some x) → x.0.now ≡ word
  count_word x cut = (cut_at 32 line word (decimal n) (Some x) cut (omega arith) free e).0

  pub count_read : (x : Bor Text × Bor Text) (r : Result (Option ℕ) PartReason) → IsSplitOnceResult 32 line (Some x) → IsRead SpellsNumber IsShort x.1.now r → r ≡ Ok (Some n)
  count_read x r cut h = number_given x.1.now n r h ((cut_at 32 line word (decimal n) (Some x) cut (omega arith) free e).1 ∙ short_decimal n short) short

-- ---- a line that is a word and a number, or none

module _ (word line : Text) (free : lacks 32 word ≡ true) where
  pub no_count : IsSplitOnceResult 32 line None → (n : ℕ) → line ≡ word ++ (32 ∷ numeral n) → ⊥
  no_count cut n e = cut_at 32 line word (numeral n) None cut (omega arith) free e

  module _ (x : Bor Text × Bor Text) (cut : IsSplitOnceResult 32 line (Some x)) where
    pub count_first : (n : ℕ) → line ≡ word ++ (32 ∷ numeral n) → (x.0.now ≡ word) × (x.1.now ≡ numeral n)
    count_first n e = cut_at 32 line word (numeral n) (Some x) cut (omega arith) free e

    pub count_is : x.0.now ≡ word → (n : ℕ) → x.1.now ≡ numeral n → line ≡ word ++ (32 ∷ numeral n)
    count_is same n e = (split_parts 32 line (Some x) cut (omega arith)).0 ∙ (λ i. same i ++ (32 ∷ e i))

-- such a line is text
pub wide_count_line : (word : Text) (n : ℕ) → IsWord word → IsLine (word ++ (32 ∷ numeral n))
wide_count_line word n h = part_line _ _ (both_parts _ _ _ _ (one_word word h) (one_word (numeral n) (numeral_graphic n)))
