-- Terms, as they are read.
use Rattle.std.proofs.Common.{◌≡◌, ◌≢◌, ◌==◌, ℕ, zero, suc, ◌+◌, ◌-◌, ◌*◌, ◌/◌, ◌%◌, ◌<◌, ◌≤◌, ◌^◌, nat_le, nat_lt, if◌then◌else◌, MatchBool, None, Bool, true, false, not, ◌&&◌, ◌||◌, cond, List, [], ◌∷◌, length, get_or, drop, ℤ, pos, negsuc, neg_ℤ, Result, Ok, Err, Option, Some, FitsSigned, ltb, inl, inr, ◌⊎◌, refl, sym, ◌∙◌, ap, subst, arith, codes, decimal}
use lib.Dec.{eqb}
use lib.Pointwise.{pointwise}
use lib.Utf8.{scalar, scalars, encode, encodes, next, scalar_cases}
use mathlib.Core.Logic.{⊎_elim}
use Rattle.std.proofs.lemmas.Bool.{false≢true, and_parts, cases_lt, eq-eqb, eqb-true, ltb-true}
use Rattle.std.proofs.lemmas.Str.Parse.{IsNumeralModel, numerals_by_value, tells_digits, parse_signed_minus, parse_signed_digits}
use Rattle.std.proofs.lemmas.Bool.Decides.{nat_tests}
use Rattle.values.proofs.Lists.{all_append}
use Rattle.std.specs.Char.{is_ascii_digit}
use Rattle.std.specs.Int.{w64}
use Rattle.std.specs.List.{list_all, AllByRecursion}
use Rattle.std.specs.Prelude.{IsUtf8}
use Rattle.std.specs.Result.{result_ok, OkIff}
use Rattle.std.specs.Str.Parse.{AllDigits, ParsesSigned, digits_value}
use Rattle.hex.specs.Hex.{encode_with, encode_lower, decode_of, lower_digits, IsBytes}
use Rattle.hex.specs.declared.error.FromHexError.{FromHexError}
use Rattle.hex.specs.declared.error.FromHexError.TheVariants.{OutOfMemory}
use Rattle.hex.proofs.HexLemmas.{decode_of-encode_lower, decode_of-ok, decode_of-same}
use Rattle.values.specs.declared.fault.Fault.{Fault}
use Rattle.values.specs.declared.fault.Fault.TheVariants.{Memory, Refused}
use Rattle.values.specs.declared.value.Value.TheVariants as value
use Rattle.algebra.specs.declared.condition.Term.{Term}
use Rattle.algebra.specs.declared.condition.Term.TheVariants as term
use Rattle.algebra.specs.ConjunctOrder.{term_text}
use Rattle.certificate_text.specs.declared.part_fault.PartReason.{PartReason}
use Rattle.certificate_text.specs.declared.part_fault.PartReason.TheVariants.{OtherForm, OverLimit}
use Rattle.certificate_text.specs.PartTexts.{Text, lacks, integer_text, part_term_text}
use Rattle.certificate_text.specs.Parts.{IsRead, Reads, ReadsAny, SpellsNumber, IsShort}
use Rattle.certificate_text.specs.Numerals.{numeral, has_numeral_form}
use Rattle.certificate_text.specs.Spelled.{is_lower_hex, IsReadableTerm, IsShortTerm, HasText, SpellsInteger, SpellsBytes, SpellsText, SpellsTerm}
use Rattle.certificate_text.proofs.DecimalNumerals.{numeral-decimal, short_decimal}
use Rattle.certificate_text.proofs.Exits.{not_both}
use Rattle.certificate_text.proofs.Lacking.{lacks_at, pass_both, pass_more, passes_other, numeral_lacks}
use Rattle.certificate_text.proofs.Numerals.{tested_numeral, numeral_tested, numeral-zero, numeral_injective, numeral_value, form_digits, form_nonempty, numeral_digits}

own : IsNumeralModel (AllDigits 10) (digits_value 10)
own = numerals_by_value (AllDigits 10) tells_digits

-- ---- integers

plain : (n : ℕ) → FitsSigned w64 (pos n) → decimal n ≡ numeral n
plain n h = let l : n < 2 ^ 63 = h.sfits in sym (numeral-decimal n (omega (arith, l)))

behind_minus : (n : ℕ) → FitsSigned w64 (negsuc n) → decimal (suc n) ≡ numeral (suc n)
behind_minus n h = let l : n < 2 ^ 63 = h.sfits in sym (numeral-decimal (suc n) (omega (arith, l)))

nonempty : (n : ℕ) → 0 < length (numeral n)
nonempty n = form_nonempty (numeral n) (numeral_tested n)

no_minus : (n : ℕ) (rest : Text) → numeral n ≡ 45 ∷ rest → ⊥
no_minus n rest e = lacks_at 45 (numeral n) (numeral_lacks 45 n refl) 0 (nonempty n) (ap (λ w. get_or w 0 0) e)

-- behind a minus are the digits of a number that isn't 0, and without one those of a number
digits_behind : (z : ℤ) (w x : Text) → SpellsInteger w z → w ≡ 45 ∷ x → (n : ℕ) × (x ≡ numeral (suc n))
digits_behind (pos n) w x e f = absurd (no_minus n x (sym e ∙ f))
digits_behind (negsuc n) w x e f = (n, ap (drop 1) (sym f ∙ e))

digits_alone : (z : ℤ) (w : Text) → SpellsInteger w z → ((rest : Text) → w ≢ 45 ∷ rest) → (n : ℕ) × (w ≡ numeral n)
digits_alone (pos n) w e f = (n, e)
digits_alone (negsuc n) w e f = absurd (f (numeral (suc n)) e)

pub tested : (n : ℕ) (w : Text) → w ≡ numeral n → has_numeral_form w ≡ true
tested n w e = ap has_numeral_form e ∙ numeral_tested n

pub no_zero : (n : ℕ) (w : Text) → w ≡ numeral (suc n) → w ≡ codes "0" → ⊥
no_zero n w e f = let same = numeral_injective (suc n) 0 (sym e ∙ f ∙ sym numeral-zero) in omega (arith, same)

same_text : (v w : Text) → pointwise eqb v w ≡ true → v ≡ w
same_text [] [] e = refl
same_text [] (c ∷ w) e = absurd (false≢true e)
same_text (b ∷ v) [] e = absurd (false≢true e)
same_text (b ∷ v) (c ∷ w) e = let parts = and_parts (eqb b c) (pointwise eqb v w) e in λ i. eqb-true b c parts.0 i ∷ same_text v w parts.1 i

pub pointwise-same : (v : Text) → pointwise eqb v v ≡ true
pointwise-same [] = refl
pointwise-same (b ∷ v) = λ i. eq-eqb b b refl i && pointwise-same v i

pub unlike : (v w : Text) → (v ≡ w → ⊥) → not (pointwise eqb v w) ≡ true
unlike v w h = by (pointwise eqb v w) refl where
  by : (same : Bool) → pointwise eqb v w ≡ same → not same ≡ true
  by true e = absurd (h (same_text v w e))
  by false e = refl

-- whether a word is an integer
abbrev pub IsTold : Text → Bool → Type 0
IsTold w b = MatchBool b ((z : ℤ) × SpellsInteger w z) ((z : ℤ) → SpellsInteger w z → ⊥)

pub minus_tested : (w x : Text) (other : Bool) → w ≡ 45 ∷ x → has_numeral_form x ≡ true → other ≡ not (pointwise eqb x (codes "0")) → IsTold w other
minus_tested w x true e h f = (by (digits_value 10 x) (tested_numeral x h)) where
  by : (n : ℕ) → x ≡ numeral n → (z : ℤ) × SpellsInteger w z
  by zero is = absurd (false≢true (sym (f ∙ ap not (ap (λ x. pointwise eqb x (codes "0")) (is ∙ numeral-zero)))))
  by (suc n) is = (negsuc n, e ∙ ap (λ x. 45 ∷ x) is)
minus_tested w x false e h f = λ z s.
    let behind = digits_behind z w x s e in
    false≢true (f ∙ unlike x (codes "0") (no_zero behind.0 x behind.1))

pub minus_untested : (w x : Text) (form : Bool) → w ≡ 45 ∷ x → form ≡ has_numeral_form x → form ≡ false → IsTold w form
minus_untested w x form e is h = subst (IsTold w) (sym h) (λ z s. let behind = digits_behind z w x s e in false≢true (sym h ∙ is ∙ tested (suc behind.0) x behind.1))

pub plain_tested : (w : Text) (form : Bool) → ((rest : Text) → w ≢ 45 ∷ rest) → form ≡ has_numeral_form w → IsTold w form
plain_tested w true none e = (pos (digits_value 10 w), tested_numeral w (sym e))
plain_tested w false none e = λ z s. let alone = digits_alone z w s none in false≢true (e ∙ tested alone.0 w alone.1)

-- an integer is parsed where it is within 64 bits
pub integer_read : {E : Type 0} (z : ℤ) (w : Text) (r : Result ℤ E) → SpellsInteger w z → ParsesSigned w64 10 w r → IsRead SpellsInteger (FitsSigned w64) w (Ok (result_ok r))
integer_read {E} (pos n) w r e h = one r (parse_signed_digits own w64 w r h digits) where
  digits : AllDigits 10 w
  digits = subst (AllDigits 10) (sym e) (form_digits (numeral n) (numeral_tested n))

  value : digits_value 10 w ≡ n
  value = ap (digits_value 10) e ∙ numeral_value n

  one : (r : Result ℤ E) → OkIff r ((0 < length w) × (digits_value 10 w < 2 ^ 63)) (pos (digits_value 10 w)) → IsRead SpellsInteger (FitsSigned w64) w (Ok (result_ok r))
  one (Ok m) q = subst (λ m. SpellsInteger w m × FitsSigned w64 m) (sym (q.1 ∙ ap pos value)) (e, record { sfits = omega (arith, q.0.1, value) })
  one (Err f) q = (pos n, e, λ fits. let l : n < 2 ^ 63 = fits.sfits in q (omega (arith, ap length e, nonempty n), omega (arith, l, value)))
integer_read {E} (negsuc n) w r e h = one r (parse_signed_minus own w64 w r h (ap (λ w. get_or w 0 0) e)) where
  behind : drop 1 w ≡ numeral (suc n)
  behind = ap (drop 1) e

  digits : AllDigits 10 (drop 1 w)
  digits = subst (AllDigits 10) (sym behind) (form_digits (numeral (suc n)) (numeral_tested (suc n)))

  value : digits_value 10 (drop 1 w) ≡ suc n
  value = ap (digits_value 10) behind ∙ numeral_value (suc n)

  one : (r : Result ℤ E) → OkIff r (AllDigits 10 (drop 1 w) × (0 < length (drop 1 w)) × (digits_value 10 (drop 1 w) ≤ 2 ^ 63)) (neg_ℤ (pos (digits_value 10 (drop 1 w)))) → IsRead SpellsInteger (FitsSigned w64) w (Ok (result_ok r))
  one (Ok m) q = subst (λ m. SpellsInteger w m × FitsSigned w64 m) (sym (q.1 ∙ ap (λ n. neg_ℤ (pos n)) value)) (e, record { sfits = omega (arith, q.0.2, value) })
  one (Err f) q = (negsuc n, e, λ fits. let l : n < 2 ^ 63 = fits.sfits in q (digits, omega (arith, ap length behind, nonempty (suc n)), omega (arith, l, value)))

integer_told : (y z : ℤ) → integer_text y ≡ integer_text z → y ≡ z
integer_told (pos m) (pos n) e = ap pos (numeral_injective m n e)
integer_told (pos m) (negsuc n) e = absurd (no_minus m (numeral (suc n)) e)
integer_told (negsuc m) (pos n) e = absurd (no_minus n (numeral (suc m)) (sym e))
integer_told (negsuc m) (negsuc n) e = ap (λ n. neg_ℤ (pos n)) (numeral_injective (suc m) (suc n) (ap (drop 1) e))

-- ---- hexadecimal digits

abbrev all_lower : ℕ → Bool
all_lower zero = true
all_lower (suc n) = is_lower_hex (get_or lower_digits n 0) && all_lower n

lower_below : (n d : ℕ) → all_lower n ≡ true → d < n → is_lower_hex (get_or lower_digits d 0) ≡ true
lower_below zero d h l = absurd (omega arith)
lower_below (suc n) d h l =
    let parts = and_parts (is_lower_hex (get_or lower_digits n 0)) (all_lower n) h in
    elim (cases_lt d n) [
      | inl below ↦ lower_below n d parts.1 below
      | inr top ↦ let e : d ≡ n = omega arith in rw e parts.0
    ]

lower_digit : (d : ℕ) → d < 16 → is_lower_hex (get_or lower_digits d 0) ≡ true
lower_digit d l = lower_below 16 d refl l

pub encoded_lower : (t : Text) → AllByRecursion (λ b. b < 256) t → list_all is_lower_hex (encode_lower t) ≡ true
unfolding encode_with
encoded_lower [] h = refl
encoded_lower (b ∷ t) h =
    let fits : b < 256 = h.0 in
    let high = lower_digit (b / 16) (omega (arith, fits)) in
    let low = lower_digit (b % 16) (omega (arith, fits)) in
    let more = encoded_lower t h.1 in
    both_pass _ _ _ high low more where
      both_pass : (x y z : Bool) → x ≡ true → y ≡ true → z ≡ true → (x && (y && z)) ≡ true
      both_pass x y z e f g = λ i. e i && (f i && g i)

-- ---- the bytes of texts

bytes_of : (c : ℕ) → scalar c ≡ true → AllByRecursion (λ b. b < 256) (encode c)
unfolding encode
bytes_of c s = by (ltb c 128) (ltb c 2048) (ltb c 65536) refl refl refl where
  below : c < 1114112
  below = ⊎_elim (λ l. omega (arith, l)) (λ l. l.1) (scalar_cases c s)

  by : (x y z : Bool) → ltb c 128 ≡ x → ltb c 2048 ≡ y → ltb c 65536 ≡ z
      → AllByRecursion (λ b. b < 256) (cond x (c ∷ []) (cond y ((192 + c / 64) ∷ next c ∷ []) (cond z ((224 + c / 4096) ∷ next (c / 64) ∷ next c ∷ []) ((240 + c / 262144) ∷ next (c / 4096) ∷ next (c / 64) ∷ next c ∷ []))))
  by true y z e f g = (omega (arith, ltb-true c 128 e), tt)
  by false true z e f g = (omega (arith, ltb-true c 2048 f), (omega arith, tt))
  by false false true e f g = (omega (arith, ltb-true c 65536 g), (omega arith, (omega arith, tt)))
  by false false false e f g = (omega (arith, below), (omega arith, (omega arith, (omega arith, tt))))

all_bytes : (cs : List ℕ) → scalars cs ≡ true → AllByRecursion (λ b. b < 256) (encodes cs)
all_bytes [] s = tt
all_bytes (c ∷ cs) s = let parts = and_parts (scalar c) (scalars cs) s in all_append (λ b. b < 256) (encode c) (encodes cs) (bytes_of c parts.0) (all_bytes cs parts.1)

pub text_bytes : (t : Text) → IsUtf8 t → AllByRecursion (λ b. b < 256) t
text_bytes t u = subst (AllByRecursion (λ b. b < 256)) u.1.1 (all_bytes u.0 u.1.0)

at_each : (t : Text) → AllByRecursion (λ b. b < 256) t → IsBytes t
at_each [] h i = omega arith
at_each (b ∷ t) h zero = h.0
at_each (b ∷ t) h (suc i) = at_each t h.1 i

-- ---- texts that are spelled in hexadecimal digits

abbrev digit_of : ℕ → ℕ
digit_of c = if nat_le 97 c then c - 87 else c - 48

abbrev all_back : ℕ → Bool
all_back zero = true
all_back (suc n) = (not (is_lower_hex n) || (nat_lt (digit_of n) 16 && (get_or lower_digits (digit_of n) 0 == n))) && all_back n

back_below : (n c : ℕ) → all_back n ≡ true → c < n → is_lower_hex c ≡ true → (digit_of c < 16) × (get_or lower_digits (digit_of c) 0 ≡ c)
back_below zero c h l p = absurd (omega arith)
back_below (suc n) c h l p =
    let parts = and_parts (not (is_lower_hex n) || (nat_lt (digit_of n) 16 && (get_or lower_digits (digit_of n) 0 == n))) (all_back n) h in
    elim (cases_lt c n) [
      | inl below ↦ back_below n c parts.1 below p
      | inr top ↦
          let e : c ≡ n = omega arith in
          let both : (nat_lt (digit_of n) 16 && (get_or lower_digits (digit_of n) 0 == n)) ≡ true = ap (λ t. not t || (nat_lt (digit_of n) 16 && (get_or lower_digits (digit_of n) 0 == n))) (sym p ∙ ap is_lower_hex e) ∙ parts.0 in
          let each = and_parts (nat_lt (digit_of n) 16) (get_or lower_digits (digit_of n) 0 == n) both in
          rw e (ltb-true (digit_of n) 16 each.0, eqb-true (get_or lower_digits (digit_of n) 0) n each.1)
    ]

lower_small : (c : ℕ) → is_lower_hex c ≡ true → c < 128
lower_small c p = grind (arith, nat_tests)

hex_back : (c : ℕ) → is_lower_hex c ≡ true → (digit_of c < 16) × (get_or lower_digits (digit_of c) 0 ≡ c)
hex_back c p = back_below 128 c refl (lower_small c p) p

-- an even number of digits spells bytes
encoded : (s : Text) → list_all is_lower_hex s ≡ true → length s % 2 ≡ 0 → (t : Text) × SpellsBytes s t
unfolding encode_with
encoded [] h even = ([], (refl, tt))
encoded (a ∷ []) h even = absurd (omega (arith, even))
encoded (a ∷ b ∷ s) h even =
    let first = and_parts (is_lower_hex a) (list_all is_lower_hex (b ∷ s)) h in
    let second = and_parts (is_lower_hex b) (list_all is_lower_hex s) first.1 in
    let more = encoded s second.1 (omega (arith, even)) in
    let high = hex_back a first.0 in
    let low = hex_back b second.0 in
    let x : ℕ = digit_of a in
    let y : ℕ = digit_of b in
    let byte : ℕ = x * 16 + y in
    let up : byte / 16 ≡ x = omega (arith, low.0) in
    let down : byte % 16 ≡ y = omega (arith, low.0) in (
      byte ∷ more.0,
      ((λ i. (sym high.1 ∙ ap (λ d. get_or lower_digits d 0) (sym up)) i ∷ (sym low.1 ∙ ap (λ d. get_or lower_digits d 0) (sym down)) i ∷ more.1.0 i), (omega (arith, high.0, low.0), more.1.1)),
    )

pub bytes_read : (w b : Text) → list_all is_lower_hex w ≡ true → decode_of w ≡ Ok b → SpellsBytes w b
bytes_read w b h e =
    let is = encoded w h (decode_of-ok w b e).0 in
    subst (SpellsBytes w) (decode_of-same w is.0 b (ap decode_of is.1.0 ∙ decode_of-encode_lower is.0 (at_each is.0 is.1.1)) e) is.1

pub bytes_lower : (w t : Text) → SpellsBytes w t → list_all is_lower_hex w ≡ true
bytes_lower w t s = ap (list_all is_lower_hex) s.0 ∙ encoded_lower t s.1

pub bytes_decode : (w t : Text) → SpellsBytes w t → decode_of w ≡ Ok t
bytes_decode w t s = ap decode_of s.0 ∙ decode_of-encode_lower t (at_each t s.1)

-- decoding fails by memory alone
pub decode_fails : (w t : Text) (e : FromHexError) → SpellsBytes w t → (e ≡ OutOfMemory → ⊥) → (e ≡ OutOfMemory) ⊎ (decode_of w ≡ Err e) → ⊥
decode_fails w t e s other (inl memory) = other memory
decode_fails w t e s other (inr fails) = not_both (decode_of w) e t fails (bytes_decode w t s)

pub text_spells_bytes : (w t : Text) → SpellsText w t → SpellsBytes w t
text_spells_bytes w t s = (s.0, text_bytes t s.1)

-- bytes that aren't a text
pub bytes_alone : (w b : Text) → SpellsBytes w b → (IsUtf8 b → ⊥) → (t : Text) → SpellsText w t → ⊥
bytes_alone w b s none t u = none (subst IsUtf8 (decode_of-same w t b (bytes_decode w t (text_spells_bytes w t u)) (bytes_decode w b s)) u.1)

pub bytes_fault : {V W : Type 0} (w : Text) (view : V → Text) (seen : W → Text) (fault : Fault PartReason) → ReadsAny SpellsBytes w view (Err fault) → ReadsAny SpellsText w seen (Err fault)
bytes_fault w view seen Memory h = tt
bytes_fault w view seen (Refused OverLimit) h = absurd h
bytes_fault w view seen (Refused OtherForm) h = λ t s. h t (text_spells_bytes w t s)

-- ---- which term it is

column_word : (t : Term) (w x : Text) → w ≡ 99 ∷ x → SpellsTerm w t → (k : ℕ) × SpellsNumber x k × (t ≡ term.Column k)
column_word (term.Column k) w x e s = (k, ap (drop 1) (sym e ∙ s.0), refl)
column_word (term.Literal value.Null) w x e s = absurd (omega (arith, ap (λ w. get_or w 0 0) (sym e ∙ s.0)))
column_word (term.Literal (value.Int z)) w x e s = absurd (omega (arith, ap (λ w. get_or w 0 0) (sym e ∙ s.0)))
column_word (term.Literal (value.Text u)) w x e s = absurd (omega (arith, ap (λ w. get_or w 0 0) (sym e ∙ s.0)))

integer_word : (t : Term) (w x : Text) → w ≡ 105 ∷ x → SpellsTerm w t → (z : ℤ) × SpellsInteger x z × (t ≡ term.Literal (value.Int z))
integer_word (term.Column k) w x e s = absurd (omega (arith, ap (λ w. get_or w 0 0) (sym e ∙ s.0)))
integer_word (term.Literal value.Null) w x e s = absurd (omega (arith, ap (λ w. get_or w 0 0) (sym e ∙ s.0)))
integer_word (term.Literal (value.Int z)) w x e s = (z, ap (drop 1) (sym e ∙ s.0), refl)
integer_word (term.Literal (value.Text u)) w x e s = absurd (omega (arith, ap (λ w. get_or w 0 0) (sym e ∙ s.0)))

text_word : (t : Term) (w x : Text) → w ≡ 116 ∷ x → SpellsTerm w t → (u : Text) × SpellsText x u × (t ≡ term.Literal (value.Text u))
text_word (term.Column k) w x e s = absurd (omega (arith, ap (λ w. get_or w 0 0) (sym e ∙ s.0)))
text_word (term.Literal value.Null) w x e s = absurd (omega (arith, ap (λ w. get_or w 0 0) (sym e ∙ s.0)))
text_word (term.Literal (value.Int z)) w x e s = absurd (omega (arith, ap (λ w. get_or w 0 0) (sym e ∙ s.0)))
text_word (term.Literal (value.Text u)) w x e s = (u, (ap (drop 1) (sym e ∙ s.0), s.1), refl)

null_word : (t : Term) (w : Text) → w ≡ codes "n" → SpellsTerm w t → t ≡ term.Literal value.Null
null_word (term.Column k) w e s = absurd (omega (arith, ap (λ w. get_or w 0 0) (sym e ∙ s.0)))
null_word (term.Literal value.Null) w e s = refl
null_word (term.Literal (value.Int z)) w e s = absurd (omega (arith, ap (λ w. get_or w 0 0) (sym e ∙ s.0)))
null_word (term.Literal (value.Text u)) w e s = absurd (omega (arith, ap (λ w. get_or w 0 0) (sym e ∙ s.0)))

pub no_word : (t : Term) (w : Text) → (w ≡ codes "n" → ⊥) → ((x : Text) → w ≢ 99 ∷ x) → ((x : Text) → w ≢ 105 ∷ x) → ((x : Text) → w ≢ 116 ∷ x) → SpellsTerm w t → ⊥
no_word (term.Column k) w null column integer text s = column (numeral k) s.0
no_word (term.Literal value.Null) w null column integer text s = null s.0
no_word (term.Literal (value.Int z)) w null column integer text s = integer (integer_text z) s.0
no_word (term.Literal (value.Text u)) w null column integer text s = text (encode_lower u) s.0

-- ---- a term is read as what stands behind its letter

abbrev Term_is : Text → Result (Option Term) PartReason → Type 0
Term_is = IsRead SpellsTerm IsShortTerm

module _ (w x : Text) (e : w ≡ 99 ∷ x) where
  pub column_other : (reason : PartReason) → IsRead SpellsNumber IsShort x (Err reason) → Term_is w (Err reason)
  column_other OverLimit h = absurd h
  column_other OtherForm h = λ t s. let word = column_word t w x e s in h word.0 word.1

  pub column_term : (k : ℕ) → IsRead SpellsNumber IsShort x (Ok (Some k)) → Term_is w (Ok (Some (term.Column k)))
  column_term k h = ((e ∙ ap (λ x. 99 ∷ x) h.0, tt), h.1)

  pub column_past : IsRead SpellsNumber IsShort x (Ok None) → Term_is w (Ok None)
  column_past h = (term.Column h.0, (e ∙ ap (λ x. 99 ∷ x) h.1, tt), h.2)

module _ (w x : Text) (e : w ≡ 105 ∷ x) where
  pub integer_other : (reason : PartReason) → IsRead SpellsInteger (FitsSigned w64) x (Err reason) → Term_is w (Err reason)
  integer_other OverLimit h = absurd h
  integer_other OtherForm h = λ t s. let word = integer_word t w x e s in h word.0 word.1

  pub integer_term : (z : ℤ) → IsRead SpellsInteger (FitsSigned w64) x (Ok (Some z)) → Term_is w (Ok (Some (term.Literal (value.Int z))))
  integer_term z h = ((e ∙ ap (λ x. 105 ∷ x) h.0, tt), h.1)

  pub integer_past : IsRead SpellsInteger (FitsSigned w64) x (Ok None) → Term_is w (Ok None)
  integer_past h = (term.Literal (value.Int h.0), (e ∙ ap (λ x. 105 ∷ x) h.1, tt), h.2)

module _ (w x : Text) (e : w ≡ 116 ∷ x) where
  pub text_fault : {V W : Type 0} (view : V → Text) (seen : W → Term) (fault : Fault PartReason) → ReadsAny SpellsText x view (Err fault) → Reads SpellsTerm IsShortTerm w seen (Err fault)
  text_fault view seen Memory h = tt
  text_fault view seen (Refused OverLimit) h = absurd h
  text_fault view seen (Refused OtherForm) h = λ t s. let word = text_word t w x e s in h word.0 word.1

  pub text_term : (u : Text) → SpellsText x u → Term_is w (Ok (Some (term.Literal (value.Text u))))
  text_term u h = ((e ∙ ap (λ x. 116 ∷ x) h.0, h.1), tt)

-- ---- of a term that is spelled within its ranges

pub algebras_text : (t : Term) → IsReadableTerm t → part_term_text t ≡ term_text t
algebras_text (term.Column k) s = ap (λ x. 99 ∷ x) (sym (short_decimal k s))
algebras_text (term.Literal value.Null) s = refl
algebras_text (term.Literal (value.Int (pos n))) s = ap (λ x. 105 ∷ x) (sym (plain n s))
algebras_text (term.Literal (value.Int (negsuc n))) s = ap (λ x. 105 ∷ 45 ∷ x) (sym (behind_minus n s))
algebras_text (term.Literal (value.Text u)) s = refl

pub short_term : (t : Term) → IsReadableTerm t → IsShortTerm t × HasText t
short_term (term.Column k) s = (s, tt)
short_term (term.Literal value.Null) s = (tt, tt)
short_term (term.Literal (value.Int z)) s = (s, tt)
short_term (term.Literal (value.Text u)) s = (tt, s)

pub readable_term : (t : Term) → IsShortTerm t → HasText t → IsReadableTerm t
readable_term (term.Column k) s h = s
readable_term (term.Literal value.Null) s h = tt
readable_term (term.Literal (value.Int z)) s h = s
readable_term (term.Literal (value.Text u)) s h = h

pub term_told : (w : Text) (t v : Term) → SpellsTerm w t → SpellsTerm w v → v ≡ t
term_told w (term.Column k) v s r = let word = column_word v w (numeral k) s.0 r in word.2 ∙ ap term.Column (numeral_injective word.0 k (sym word.1))
term_told w (term.Literal value.Null) v s r = null_word v w s.0 r
term_told w (term.Literal (value.Int z)) v s r = let word = integer_word v w (integer_text z) s.0 r in word.2 ∙ ap (λ z. term.Literal (value.Int z)) (integer_told word.0 z (sym word.1))
term_told w (term.Literal (value.Text u)) v s r =
    let word = text_word v w (encode_lower u) s.0 r in
    word.2 ∙ ap (λ u. term.Literal (value.Text u)) (decode_of-same (encode_lower u) word.0 u (bytes_decode (encode_lower u) word.0 (text_spells_bytes (encode_lower u) word.0 word.1)) (bytes_decode (encode_lower u) u (refl, text_bytes u s.1)))

-- a word that the test finds to be another text
pub no_text : (w v : Text) (same : Bool) → same ≡ false → same ≡ pointwise eqb w v → w ≡ v → ⊥
no_text w v same e f g = false≢true (sym e ∙ f ∙ ap (λ w. pointwise eqb w v) g ∙ pointwise-same v)

-- a word that the test finds to be the text
pub text_same : (w v : Text) (same : Bool) → same ≡ true → same ≡ pointwise eqb w v → w ≡ v
text_same w v same e f = same_text w v (sym f ∙ e)

-- ---- the characters of a term's text

module _ (p : ℕ → Bool) (hex : (b : ℕ) → is_lower_hex b ≡ true → p b ≡ true) (letters : (list_all p (codes "n") ≡ true) × (list_all p (codes "c") ≡ true) × (list_all p (codes "i") ≡ true) × (list_all p (codes "t") ≡ true) × (list_all p (codes "-") ≡ true)) where
  pub numeral_passes : (n : ℕ) → list_all p (numeral n) ≡ true
  numeral_passes n = pass_more is_ascii_digit p (λ b digit. hex b (ap (λ d. d || (nat_le 97 b && nat_le b 102)) digit)) (numeral n) (numeral_digits n)

  pub part_term_passes : (t : Term) → HasText t → list_all p (part_term_text t) ≡ true
  part_term_passes (term.Column k) s = pass_both p (codes "c") (numeral k) letters.1 (numeral_passes k)
  part_term_passes (term.Literal value.Null) s = letters.0
  part_term_passes (term.Literal (value.Int (pos n))) s = pass_both p (codes "i") (numeral n) letters.2 (numeral_passes n)
  part_term_passes (term.Literal (value.Int (negsuc n))) s = pass_both p (codes "i") (45 ∷ numeral (suc n)) letters.2 (pass_both p (codes "-") (numeral (suc n)) letters.4 (numeral_passes (suc n)))
  part_term_passes (term.Literal (value.Text u)) s = pass_both p (codes "t") (encode_lower u) letters.3 (pass_more is_lower_hex p hex (encode_lower u) (encoded_lower u (text_bytes u s)))

  pub term_passes : (t : Term) → IsReadableTerm t → list_all p (term_text t) ≡ true
  term_passes t s = ap (list_all p) (sym (algebras_text t s)) ∙ part_term_passes t (short_term t s).1

pub no_comma : (t : Term) → HasText t → lacks 44 (part_term_text t) ≡ true
no_comma = part_term_passes (λ b. not (b == 44)) (passes_other is_lower_hex 44 refl) (refl, refl, refl, refl, refl)

pub no_parenthesis : (t : Term) → HasText t → lacks 41 (part_term_text t) ≡ true
no_parenthesis = part_term_passes (λ b. not (b == 41)) (passes_other is_lower_hex 41 refl) (refl, refl, refl, refl, refl)
