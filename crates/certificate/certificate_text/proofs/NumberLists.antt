-- Lists of numbers, as they are read.
use Rattle.std.proofs.Common.{◌≡◌, ℕ, zero, suc, ◌+◌, ◌<◌, Bool, false, List, [], ◌∷◌, ◌++◌, length, map, take, get_or, Result, ◌==◌, append-nil, Ok, Err, Option, Some, None, refl, sym, ◌∙◌, ap, subst, arith}
use Rattle.std.proofs.Math.Seq.{take-suc}
use Rattle.std.proofs.lemmas.List.{get_or-map}
use denote.Ref.{Bor}
use Rattle.std.proofs.lemmas.Bool.{false≢true}
use lib.Dec.{eqb}
use lib.Pointwise.{pointwise}
use Rattle.std.proofs.lemmas.List.Elements.{All-from_recursion}
use Rattle.std.proofs.lemmas.List.Splits.{slice_split_none, slice_split_at, length-slice_split, join_with_byte-slice_split}
use Rattle.std.proofs.lemmas.Bool.Decides.{nat_tests}
use Rattle.std.proofs.lemmas.Str.Parse.{digit_from_value}
use Rattle.std.specs.List.{All, AllByRecursion, join_by, join_with_byte, slice_split}
use Rattle.std.specs.Prelude.{codes}
use Rattle.std.specs.Str.Parse.{AllDigits}
use Rattle.values.specs.declared.fault.Fault.{Fault}
use Rattle.values.specs.declared.fault.Fault.TheVariants.{Memory, Refused}
use Rattle.certificate_text.specs.declared.part_fault.PartReason.{PartReason}
use Rattle.certificate_text.specs.declared.part_fault.PartReason.TheVariants.{OtherForm, OverLimit}
use Rattle.certificate_text.specs.PartTexts.{Text}
use Rattle.certificate_text.specs.Numerals.{numeral}
use Rattle.certificate_text.proofs.Numerals.{form_digits, numeral_tested}
use Rattle.certificate_text.specs.Parts.{Reads, SpellEach, SpellsNumbers, AreShort}

pub spelled_at : (ns : List ℕ) (i : ℕ) → i < length (map numeral ns) → get_or (map numeral ns) i [] ≡ numeral (get_or ns i 0)
spelled_at [] i l = absurd (omega arith)
spelled_at (n ∷ ns) zero l = refl
spelled_at (n ∷ ns) (suc i) l = spelled_at ns i (omega arith)

-- ---- slices of words

abbrev pub texts : List (Bor Text) → List Text
texts words = map (λ word. word.now) words

pub texts_length : (words : List (Bor Text)) → length (texts words) ≡ length words
texts_length [] = refl
texts_length (word ∷ words) = omega (arith, texts_length words)

pub texts_more : (words : List (Bor Text)) (i : ℕ) (d : Bor Text) → i < length words → take (i + 1) (texts words) ≡ take i (texts words) ++ ((get_or words i d).now ∷ [])
texts_more words i d l =
    let s : i + 1 ≡ suc i = omega arith in
    ap (λ n. take n (texts words)) s ∙ take-suc (texts words) i [] (subst (λ n. i < n) (sym (texts_length words)) l)
    ∙ ap (λ t. take i (texts words) ++ (t ∷ [])) (get_or-map (λ (word : Bor Text). word.now) words i d [] l)

-- ---- from the parts of a list to the list

digit_no_comma : (ds : Text) → AllDigits 10 ds → AllByRecursion (λ b. (b == 44) ≡ false) ds
digit_no_comma [] h = tt
digit_no_comma (c ∷ cs) h = let range = digit_from_value c h.0 in (grind (arith, nat_tests), digit_no_comma cs h.1)

numeral_no_comma : (n : ℕ) → All (λ b. (b == 44) ≡ false) (numeral n)
numeral_no_comma n = All-from_recursion (λ b. (b == 44) ≡ false) (numeral n) (digit_no_comma (numeral n) (form_digits (numeral n) (numeral_tested n)))

-- a joined list is cut at its commas
split_joined : (n : ℕ) (ns : List ℕ) → slice_split (λ b. b == 44) (join_by numeral (44 ∷ []) (n ∷ ns)) ≡ map numeral (n ∷ ns)
split_joined n [] = ap (slice_split (λ b. b == 44)) (append-nil (numeral n)) ∙ slice_split_none (λ b. b == 44) (numeral n) (numeral_no_comma n)
split_joined n (m ∷ ns) = slice_split_at (λ b. b == 44) (numeral n) 44 (join_by numeral (44 ∷ []) (m ∷ ns)) (numeral_no_comma n) refl ∙ ap (λ ts. numeral n ∷ ts) (split_joined m ns)

joined_again : (n : ℕ) (ns : List ℕ) → join_with_byte 44 (map numeral (n ∷ ns)) ≡ join_by numeral (44 ∷ []) (n ∷ ns)
joined_again n [] = sym (append-nil (numeral n))
joined_again n (m ∷ ns) = ap (λ t. numeral n ++ (44 ∷ t)) (joined_again m ns)

parts_nonempty : (w : Text) → slice_split (λ b. b == 44) w ≡ [] → ⊥
parts_nonempty w e = let l = length-slice_split (λ b. b == 44) w in omega (arith, l, ap length e)

pub list_spelled : (w : Text) (ns : List ℕ) → SpellEach (slice_split (λ b. b == 44) w) ns → SpellsNumbers w ns
list_spelled w [] e = absurd (parts_nonempty w e)
list_spelled w (n ∷ ns) e = sym (join_with_byte-slice_split 44 w) ∙ ap (join_with_byte 44) e ∙ joined_again n ns

pub parts_spelled : (w : Text) (ns : List ℕ) → (w ≡ codes "-" → ⊥) → SpellsNumbers w ns → SpellEach (slice_split (λ b. b == 44) w) ns
parts_spelled w [] h e = absurd (h e)
parts_spelled w (n ∷ ns) h e = ap (slice_split (λ b. b == 44)) e ∙ split_joined n ns

-- a list is read as its parts are, but for the dash
pub list_read : {V : Type 0} (w : Text) (ts : List Text) (view : V → List ℕ) (result : Result (Option V) (Fault PartReason)) → (w ≡ codes "-" → ⊥) → ts ≡ slice_split (λ b. b == 44) w
    → Reads SpellEach AreShort ts view result → Reads SpellsNumbers AreShort w view result
list_read w ts view (Ok (Some v)) h e r = (list_spelled w (view v) (sym e ∙ r.0), r.1)
list_read w ts view (Ok None) h e r = (r.0, list_spelled w r.0 (sym e ∙ r.1), r.2)
list_read w ts view (Err Memory) h e r = tt
list_read w ts view (Err (Refused OverLimit)) h e r = absurd r
list_read w ts view (Err (Refused OtherForm)) h e r = λ ns s. r ns (e ∙ parts_spelled w ns h s)

pub no_dash : (w : Text) (same : Bool) → same ≡ false → same ≡ pointwise eqb w (codes "-") → w ≡ codes "-" → ⊥
no_dash w same e f h = false≢true (sym e ∙ f ∙ ap (λ w. pointwise eqb w (codes "-")) h)
