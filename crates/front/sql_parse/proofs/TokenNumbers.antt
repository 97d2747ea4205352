-- Numbers of a text.
use Rattle.std.proofs.Common.{◌≡◌, ◌==◌, ◌+◌, ℕ, ℤ, pos, negsuc, suc, cond, if◌then◌else◌, Bool, true, false, [], ◌∷◌, take, drop, Ok, Err, refl, sym, ◌∙◌, ap, subst, inl, inr, arith, w64}
use Rattle.std.proofs.lemmas.Bool.{false≢true}
use Rattle.std.proofs.lemmas.Bool.Decides.{nat_tests}
use Rattle.std.proofs.lemmas.Int.{to_z-of_z}
use Rattle.std.proofs.lemmas.List.Sums.{take_while-cons}
use Rattle.std.specs.Char.{is_ascii_digit}
use Rattle.std.specs.List.{prefix_len}
use Rattle.std.specs.Prelude.{slice_index}
use Rattle.std.specs.Str.Parse.{AllDigits, IsNumeral, without_leading_sign, signed_digits_value}
use mir.Val.{SFits, to_z, of_z}
use Rattle.sql_parse.specs.declared.fault.ParseReason.TheVariants.{NumberRange}
use Rattle.sql_parse.specs.declared.token.TokenKind.TheVariants as token
use Rattle.sql_parse.specs.Tokens.{Bytes, Are, IsDigits, IsNumber}
use Rattle.sql_parse.specs.Reading.{refusal, digits_len, number_len, starts_number, fits, number_found, number_at}

-- the first bytes that pass a test do
pub are_run : (p : ℕ → Bool) (bs : Bytes) → Are p (take (prefix_len p bs) bs)
are_run p [] = tt
are_run p (c ∷ bs) = one (p c) refl (are_run p bs) where
  one : (b : Bool) → p c ≡ b → Are p (take (prefix_len p bs) bs) → Are p (take (prefix_len p (c ∷ bs)) (c ∷ bs))
  one true e h = subst (Are p) (sym (take_while-cons p c bs ∙ ap (λ b. cond b (c ∷ take (prefix_len p bs) bs) []) e)) (e, h)
  one false e h = subst (Are p) (sym (take_while-cons p c bs ∙ ap (λ b. cond b (c ∷ take (prefix_len p bs) bs) []) e)) tt

digits_spelled : (c : ℕ) (z : Bytes) → is_ascii_digit c ≡ true → IsDigits (take (digits_len (c ∷ z)) (c ∷ z))
digits_spelled c z e =
    subst IsDigits (sym (take_while-cons is_ascii_digit c z ∙ ap (λ b. cond b (c ∷ take (digits_len z) z) []) e)) (e, are_run is_ascii_digit z)

minus : (z : Bytes) → is_ascii_digit (slice_index z 0) ≡ true → IsNumber (take (1 + digits_len z) (45 ∷ z))
minus [] e = absurd (false≢true e)
minus (d ∷ z) e =
    let m : 1 + digits_len (d ∷ z) ≡ suc (digits_len (d ∷ z)) = omega arith in
    subst (λ n. IsNumber (take n (45 ∷ d ∷ z))) (sym m) (inr (refl, digits_spelled d z e))

plain : (c : ℕ) (z : Bytes) → (c == 45) ≡ false → starts_number (c ∷ z) ≡ true → IsNumber (take (digits_len (c ∷ z)) (c ∷ z))
plain c z n h =
    let e : is_ascii_digit c ≡ true = grind arith in
    subst IsNumber (sym (take_while-cons is_ascii_digit c z ∙ ap (λ b. cond b (c ∷ take (digits_len z) z) []) e)) (inl (e, are_run is_ascii_digit z))

-- what stands where a number begins is spelled as one
pub number_spelled : (bs : Bytes) → starts_number bs ≡ true → IsNumber (take (number_len bs) bs)
unfolding number_len
number_spelled [] h = absurd (false≢true h)
number_spelled (c ∷ z) h = one (c == 45) refl where
  one : (b : Bool) → (c == 45) ≡ b → IsNumber (take (if b then 1 + digits_len z else digits_len (c ∷ z)) (c ∷ z))
  one true e =
      let f : 45 ≡ c = grind (arith, nat_tests) in
      let g : starts_number (45 ∷ z) ≡ true = ap (λ x. starts_number (x ∷ z)) f ∙ h in
      subst (λ x. IsNumber (take (1 + digits_len z) (x ∷ z))) f (minus z g)
  one false e = plain c z e h

all_digits : (w : Bytes) → Are is_ascii_digit w → AllDigits 10 w
all_digits [] h = tt
all_digits (c ∷ w) h = let e = h.0 in (grind (arith, nat_tests), all_digits w h.1)

-- as std has it
pub numeral : (w : Bytes) → IsNumber w → IsNumeral 10 (without_leading_sign w)
numeral [] h = absurd h
numeral (c ∷ w) (inl h) =
    let e = h.0 in
    let m : (c == 45) ≡ false = grind (arith, nat_tests) in
    let p : (c == 43) ≡ false = grind (arith, nat_tests) in
    rw (m, p) (omega arith, all_digits (c ∷ w) h)
numeral (c ∷ []) (inr h) = absurd h.1
numeral (c ∷ d ∷ w) (inr h) =
    let m : (c == 45) ≡ true = ap (λ x. x == 45) h.0 in
    rw m (omega arith, all_digits (d ∷ w) h.1)

pub fits_from : (z : ℤ) → SFits w64 z → fits z ≡ true
fits_from (pos n) h = let k = h.sfits in grind (arith, nat_tests)
fits_from (negsuc n) h = let k = h.sfits in grind (arith, nat_tests)

pub SFits-from_fits : (z : ℤ) → fits z ≡ true → SFits w64 z
SFits-from_fits (pos n) h = record { sfits = grind (arith, nat_tests) }
SFits-from_fits (negsuc n) h = record { sfits = grind (arith, nat_tests) }

-- a number that parses is read
pub number_parsed : (at : ℕ) (bs word rest : Bytes) (n : ℕ) (value : ℤ) → n ≡ number_len bs → word ≡ take n bs → rest ≡ drop n bs → SFits w64 (signed_digits_value 10 word) → value ≡ signed_digits_value 10 word
    → number_at at bs ≡ Ok (token.Number (to_z w64 (of_z w64 value)), rest)
unfolding number_at
number_parsed at bs word rest n value k e d f g =
    let v : signed_digits_value 10 (take n bs) ≡ value = sym (g ∙ ap (signed_digits_value 10) e) in
    let t : fits (signed_digits_value 10 (take n bs)) ≡ true = ap (λ w. fits (signed_digits_value 10 w)) (sym e) ∙ fits_from (signed_digits_value 10 word) f in
    let h : SFits w64 value = subst (SFits w64) (sym g) f in
    ap (number_found at bs) (sym k)
    ∙ ap (λ b. if b then Ok (token.Number (signed_digits_value 10 (take n bs)), drop n bs) else Err (refusal NumberRange at)) t
    ∙ ap (λ z. Ok (token.Number z, drop n bs)) (v ∙ sym (to_z-of_z w64 value h))
    ∙ ap (λ r. Ok (token.Number (to_z w64 (of_z w64 value)), r)) (sym d)

-- one that doesn't is past 64 bits
pub number_unparsed : (at : ℕ) (bs word : Bytes) (n : ℕ) → n ≡ number_len bs → word ≡ take n bs → starts_number bs ≡ true
    → (IsNumeral 10 (without_leading_sign word) × SFits w64 (signed_digits_value 10 word) → ⊥) → number_at at bs ≡ Err (refusal NumberRange at)
unfolding number_at
number_unparsed at bs word n k e s f = one (fits (signed_digits_value 10 word)) refl where
  spelled : IsNumber word
  spelled = subst IsNumber (sym (e ∙ ap (λ m. take m bs) k)) (number_spelled bs s)

  one : (b : Bool) → fits (signed_digits_value 10 word) ≡ b → number_found at bs (number_len bs) ≡ Err (refusal NumberRange at)
  one true t = absurd (f (numeral word spelled, SFits-from_fits (signed_digits_value 10 word) t))
  one false t =
      ap (number_found at bs) (sym k)
      ∙ ap (λ b. if b then Ok (token.Number (signed_digits_value 10 (take n bs)), drop n bs) else Err (refusal NumberRange at)) (ap (λ w. fits (signed_digits_value 10 w)) (sym e) ∙ t)
