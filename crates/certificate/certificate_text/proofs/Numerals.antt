-- Numbers in decimal digits: which texts are numerals, and of which number.
use Rattle.std.proofs.Common.{◌≡◌, ◌≢◌, ℕ, zero, suc, ◌+◌, ◌*◌, ◌/◌, ◌%◌, ◌<◌, ◌⊎◌, List, [], ◌∷◌, ◌++◌, length, map, get_or, refl, sym, ◌∙◌, ap, inl, inr, arith, append_assoc, append-nil, Bool, true, false, ◌&&◌, ◌==◌}
use Rattle.std.proofs.lemmas.Bool.{false≢true}
use Rattle.std.proofs.lemmas.Bool.Decides.{nat_tests}
use Rattle.std.proofs.lemmas.Int.Digits.{digits_of_step, all_below_base_digits_of, first_digits_of, number_digits_of, digits_value_is}
use Rattle.std.proofs.lemmas.List.{map-append}
use Rattle.std.proofs.lemmas.Str.{digit_value_digit}
use Rattle.std.proofs.lemmas.Str.Parse.{digit_from_value}
use Rattle.std.specs.Char.{digit_value, is_ascii_digit}
use Rattle.std.specs.List.{list_all}
use Rattle.std.specs.Int.Digits.{digits_of, number_from_digits, AllBelowBase}
use Rattle.std.specs.Str.Parse.{AllDigits, digits_value, digits_value_after}
use Rattle.certificate_text.specs.PartTexts.{Text}
use Rattle.certificate_text.specs.Numerals.{numeral, has_numeral_form}

abbrev glyphs : List ℕ → Text
glyphs ds = map (λ d. 48 + d) ds

-- a lone 0, or digits of which the first is no 0
abbrev pub HasNumeralForm : Text → Type 0
HasNumeralForm [] = ⊥
HasNumeralForm (c ∷ cs) = ((c ≡ 48) × (cs ≡ [])) ⊎ ((c ≢ 48) × AllDigits 10 (c ∷ cs))

-- ---- from a number to its text

glyph_value : (d : ℕ) → d < 10 → digit_value (48 + d) ≡ d
glyph_value d h = grind (arith, nat_tests)

glyph_values : (ds : List ℕ) → AllBelowBase 10 ds → map digit_value (glyphs ds) ≡ ds
glyph_values [] h = refl
glyph_values (d ∷ ds) h = ap (λ v. v ∷ map digit_value (glyphs ds)) (glyph_value d h.0) ∙ ap (λ vs. d ∷ vs) (glyph_values ds h.1)

glyphs_are_digits : (ds : List ℕ) → AllBelowBase 10 ds → AllDigits 10 (glyphs ds)
glyphs_are_digits [] h = tt
glyphs_are_digits (d ∷ ds) h = (omega (arith, glyph_value d h.0, h.0), glyphs_are_digits ds h.1)

pub numeral_value : (n : ℕ) → digits_value 10 (numeral n) ≡ n
unfolding numeral
numeral_value zero = refl
numeral_value (suc n) =
    let ds = digits_of 10 (suc n) in
    digits_value_is 10 (glyphs ds) ∙ ap (number_from_digits 10) (glyph_values ds (all_below_base_digits_of 10 (suc n) (omega arith)))
    ∙ number_digits_of 10 (suc n) (omega arith)

glyphs_have_form : (ds : List ℕ) → AllBelowBase 10 ds → 0 < get_or ds 0 0 → HasNumeralForm (glyphs ds)
glyphs_have_form [] h first = omega arith
glyphs_have_form (d ∷ ds) h first = inr (λ e. omega arith, glyphs_are_digits (d ∷ ds) h)

pub numeral_has_form : (n : ℕ) → HasNumeralForm (numeral n)
unfolding numeral
numeral_has_form zero = inl (refl, refl)
numeral_has_form (suc n) = glyphs_have_form (digits_of 10 (suc n)) (all_below_base_digits_of 10 (suc n) (omega arith)) (first_digits_of 10 (suc n) (omega arith) (omega arith))

-- ---- from a text to its number

glyph_again : (c : ℕ) → digit_value c < 10 → 48 + digit_value c ≡ c
glyph_again c h = omega (arith, digit_value_digit c (digit_from_value c h))

-- digits behind those of a number that isn't 0
more_digits : (n : ℕ) (cs : Text) → 0 < n → AllDigits 10 cs → glyphs (digits_of 10 (digits_value_after 10 n cs)) ≡ glyphs (digits_of 10 n) ++ cs
more_digits n [] l h = sym (append-nil (glyphs (digits_of 10 n)))
more_digits n (c ∷ cs) l h =
    let m = n * 10 + digit_value c in
    let front : m / 10 ≡ n = omega (arith, h.0) in
    let last : m % 10 ≡ digit_value c = omega (arith, h.0) in
    let step : glyphs (digits_of 10 m) ≡ glyphs (digits_of 10 n) ++ (c ∷ []) =
    ap glyphs (digits_of_step 10 m (omega arith) (omega arith)) ∙ map-append (λ d. 48 + d) (digits_of 10 (m / 10)) (m % 10 ∷ [])
    ∙ ap (λ k. glyphs (digits_of 10 k) ++ ((48 + m % 10) ∷ [])) front ∙ ap (λ k. glyphs (digits_of 10 n) ++ ((48 + k) ∷ [])) last
    ∙ ap (λ k. glyphs (digits_of 10 n) ++ (k ∷ [])) (glyph_again c h.0) in
    more_digits m cs (omega arith) h.1 ∙ ap (λ front. front ++ cs) step ∙ append_assoc (glyphs (digits_of 10 n)) (c ∷ []) cs

one_digit : (d : ℕ) → 0 < d → d < 10 → glyphs (digits_of 10 d) ≡ (48 + d) ∷ []
one_digit d l h =
    let front : d / 10 ≡ 0 = omega arith in
    let last : d % 10 ≡ d = omega arith in
    ap glyphs (digits_of_step 10 d (omega arith) l) ∙ ap (λ k. glyphs (digits_of 10 k ++ (d % 10 ∷ []))) front ∙ ap (λ k. (48 + k) ∷ []) last

positive : (n : ℕ) → 0 < n → numeral n ≡ glyphs (digits_of 10 n)
unfolding numeral
positive zero l = absurd (omega arith)
positive (suc n) l = refl

after_positive : (n : ℕ) (cs : Text) → 0 < n → 0 < digits_value_after 10 n cs
after_positive n [] l = l
after_positive n (c ∷ cs) l = after_positive (n * 10 + digit_value c) cs (omega arith)

digits_spelled : (c : ℕ) (cs : Text) → c ≢ 48 → AllDigits 10 (c ∷ cs) → c ∷ cs ≡ numeral (digits_value 10 (c ∷ cs))
digits_spelled c cs first h =
    let d = digit_value c in
    let again : 48 + d ≡ c = glyph_again c h.0 in
    let l : 0 < d = omega arith in
    let zero_first : digits_value 10 (c ∷ cs) ≡ digits_value_after 10 d cs = ap (λ n. digits_value_after 10 n cs) (omega arith) in
    sym (ap numeral zero_first ∙ positive (digits_value_after 10 d cs) (after_positive d cs l) ∙ more_digits d cs l h.1
    ∙ ap (λ front. front ++ cs) (one_digit d l h.0 ∙ ap (λ k. k ∷ []) again))

-- a text of the form is that of its number
pub form_is_numeral : (w : Text) → HasNumeralForm w → w ≡ numeral (digits_value 10 w)
unfolding numeral
form_is_numeral [] h = absurd h
form_is_numeral (c ∷ cs) (inl h) = rw (h.0, h.1) refl
form_is_numeral (c ∷ cs) (inr h) = digits_spelled c cs h.0 h.1

-- ---- the test

all_digits : (w : Text) → list_all is_ascii_digit w ≡ true → AllDigits 10 w
all_digits [] h = tt
all_digits (c ∷ w) h =
    let one : is_ascii_digit c ≡ true = grind arith in
    let more : list_all is_ascii_digit w ≡ true = grind arith in
    (grind (arith, nat_tests), all_digits w more)

all_ascii : (w : Text) → AllDigits 10 w → list_all is_ascii_digit w ≡ true
all_ascii [] h = refl
all_ascii (c ∷ w) h =
    let range = digit_from_value c h.0 in
    let one : is_ascii_digit c ≡ true = grind (arith, nat_tests) in
    ap (λ b. b && list_all is_ascii_digit w) one ∙ all_ascii w h.1

form_tested : (w : Text) → HasNumeralForm w → has_numeral_form w ≡ true
form_tested [] h = absurd h
form_tested (c ∷ cs) (inl h) = rw (h.0, h.1) refl
form_tested (c ∷ cs) (inr h) = let all = all_ascii (c ∷ cs) h.1 in let first = h.0 in grind (arith, nat_tests)

empty : (cs : Text) → length cs ≡ 0 → cs ≡ []
empty [] n = refl
empty (d ∷ ds) n = absurd (omega arith)

test_formed : (w : Text) → has_numeral_form w ≡ true → HasNumeralForm w
test_formed [] h = absurd (false≢true h)
test_formed (c ∷ cs) h = one (c == 48) refl where
  all : list_all is_ascii_digit (c ∷ cs) ≡ true
  all = grind arith

  one : (b : Bool) → (c == 48) ≡ b → HasNumeralForm (c ∷ cs)
  one true e = inl (grind (arith, nat_tests), empty cs (grind (arith, nat_tests)))
  one false e = inr (λ f. grind (arith, nat_tests), all_digits (c ∷ cs) all)

-- what passes the test is a numeral
pub tested_numeral : (w : Text) → has_numeral_form w ≡ true → w ≡ numeral (digits_value 10 w)
tested_numeral w h = form_is_numeral w (test_formed w h)

pub numeral_tested : (n : ℕ) → has_numeral_form (numeral n) ≡ true
numeral_tested n = form_tested (numeral n) (numeral_has_form n)

pub form_digits : (w : Text) → has_numeral_form w ≡ true → AllDigits 10 w
form_digits w h = let all : list_all is_ascii_digit w ≡ true = grind arith in all_digits w all

pub form_nonempty : (w : Text) → has_numeral_form w ≡ true → 0 < length w
form_nonempty w h = grind (arith, nat_tests)

pub numeral_digits : (n : ℕ) → list_all is_ascii_digit (numeral n) ≡ true
numeral_digits n = all_ascii (numeral n) (form_digits (numeral n) (numeral_tested n))

pub numeral_injective : (m n : ℕ) → numeral m ≡ numeral n → m ≡ n
numeral_injective m n e = sym (numeral_value m) ∙ ap (digits_value 10) e ∙ numeral_value n

pub numeral-zero : numeral 0 ≡ 48 ∷ []
unfolding numeral
numeral-zero = refl
