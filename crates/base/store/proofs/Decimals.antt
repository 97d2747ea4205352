-- Bytes as a whole number's decimal.
use Rattle.std.proofs.Common.{◌≡◌, ◌≢◌, ℕ, zero, suc, ◌+◌, ◌-◌, ◌*◌, ◌<◌, ◌≤◌, ◌^◌, ◌==◌, List, [], ◌∷◌, length, take, get_or, Bool, true, false, cond, Ok, Err, ℤ, pos, negsuc, FitsSigned, neg_ℤ, refl, sym, ap, arith}
use Rattle.std.proofs.lemmas.Bool.Decides.{nat_tests}
use Rattle.std.specs.Int.{w64}
use Rattle.std.specs.Result.{OkIff}
use Rattle.std.specs.Fmt.{decimal, signed_decimal}
use Rattle.std.specs.Str.{IsUtf8}
use Rattle.std.specs.Str.Parse.{AllDigits, digits_value, ParsesSigned}
use Rattle.std.proofs.lemmas.List.{take_all, length-take-le}
use Rattle.std.proofs.lemmas.Int.Digits.{digits_more, digits_value_more}
use Rattle.std.proofs.lemmas.Str.{IsUtf8-from_ascii, digit_value_digit}
use Rattle.std.proofs.lemmas.Str.Parse.{IsNumeralModel, numerals_by_value, digits_value_short, tells_digits, digit_at, parse_signed_plain, parse_signed_minus}
use Rattle.std.proofs.lemmas.Fmt.{decimal_digit, decimal_nonempty, first_decimal, digits_decimal, decimal-digits_value, parse-signed_decimal, IsAscii-signed}
use Rattle.std.proofs.lemmas.Bool.{ne_eqb}
use Rattle.store.specs.Numbers.{IsCount, begins_count, begins_number}
use Rattle.store.specs.Tables.{IsNumber}

own : IsNumeralModel (AllDigits 10) (digits_value 10)
own = numerals_by_value (AllDigits 10) tells_digits

-- ---- how a decimal begins

count_from : (ds : List ℕ) → 0 < length ds → 48 < get_or ds 0 0 → get_or ds 0 0 ≤ 57 → begins_count ds ≡ true
count_from [] l lo hi = absurd (omega arith)
count_from (b ∷ bs) l lo hi = grind (arith, nat_tests)

count_first : (ds : List ℕ) → begins_count ds ≡ true → (0 < length ds) × (48 < get_or ds 0 0) × (get_or ds 0 0 ≤ 57)
count_first [] e = cc e
count_first (b ∷ bs) e = (omega arith, grind (arith, nat_tests), grind (arith, nat_tests))

decimal_begins : (n : ℕ) → 0 < n → n < 2 ^ 64 → begins_count (decimal n) ≡ true
decimal_begins n low high =
    let few = decimal_nonempty n high in
    let digit = digit_at (decimal n) 0 (digits_decimal own n high) few in
    count_from (decimal n) few (first_decimal n low high) digit.1

number_from_count : (ds : List ℕ) → begins_count ds ≡ true → begins_number ds ≡ true
number_from_count [] e = e
number_from_count (b ∷ []) e = let h = count_first (b ∷ []) e in rw (ne_eqb b 48 (λ q. omega arith)) e
number_from_count (b ∷ c ∷ bs) e = let h = count_first (b ∷ c ∷ bs) e in rw (ne_eqb b 45 (λ q. omega arith)) e

minus_count : (ds : List ℕ) → begins_count ds ≡ true → begins_number (45 ∷ ds) ≡ true
minus_count [] e = cc e
minus_count (d ∷ ds) e = e

pub signed_begins : (n : ℤ) → FitsSigned w64 n → begins_number (signed_decimal n) ≡ true
signed_begins (pos zero) fits = rw (decimal_digit 0 (omega arith)) refl
signed_begins (pos (suc n)) fits = let h = fits.sfits in number_from_count (decimal (suc n)) (decimal_begins (suc n) (omega arith) (omega arith))
signed_begins (negsuc n) fits = let h = fits.sfits in minus_count (decimal (suc n)) (decimal_begins (suc n) (omega arith) (omega arith))

begins_some : (bs : List ℕ) → begins_number bs ≡ true → 0 < length bs
begins_some [] e = cc e
begins_some (b ∷ bs) e = omega arith

zero_alone : (bs : List ℕ) → begins_number bs ≡ true → get_or bs 0 0 ≡ 48 → length bs ≡ 1
zero_alone [] e z = cc e
zero_alone (b ∷ []) e z = refl
zero_alone (b ∷ c ∷ bs) e z = let bad : begins_count (48 ∷ c ∷ bs) ≡ true = rw z at e in cc bad

-- ---- what isn't a number

pub other_front : (bs : List ℕ) → begins_number bs ≡ false → ¬ (IsNumber bs)
other_front bs e (n, fits, is) = let t : begins_number bs ≡ true = rw is (signed_begins n fits) in cc (t, e)

pub not_parsed : {E : Type 0} (bs : List ℕ) (e : E) → ParsesSigned {E = E} w64 10 bs (Err e) → ¬ (IsNumber bs)
not_parsed bs e h (n, fits, is) = let bad = parse-signed_decimal w64 n bs (Err e) fits fits.sfits is h in cc bad

pub no_text : (bs : List ℕ) → ¬ (IsUtf8 bs) → ¬ (IsNumber bs)
no_text bs h (n, fits, is) = h (rw is (IsUtf8-from_ascii (signed_decimal n) (IsAscii-signed n fits.sfits)))

-- ---- what is one

plain : (bs : List ℕ) (z : ℤ) → get_or bs 0 0 ≢ 43 → get_or bs 0 0 ≢ 45 → (get_or bs 0 0 ≡ 48 → length bs ≡ 1) → ParsesSigned {E = Unit {0}} w64 10 bs (Ok z) → bs ≡ signed_decimal z
plain bs z p m one h =
    let r : OkIff {E = Unit {0}} (Ok z) (AllDigits 10 bs × (0 < length bs) × (digits_value 10 bs < 2 ^ 63)) (pos (digits_value 10 bs)) = parse_signed_plain own {E = Unit {0}} w64 bs (Ok z) h p m in
    rw r.1 (sym (decimal-digits_value own bs r.0.0 r.0.1 one (omega (arith, r.0.2))))

minus_of : (m : ℕ) (ds : List ℕ) → decimal m ≡ ds → begins_count ds ≡ true → 45 ∷ ds ≡ signed_decimal (neg_ℤ (pos m))
minus_of zero ds e b = let bad : false ≡ true = rw (decimal_digit 0 (omega arith)) at (rw (← e) at b) in cc bad
minus_of (suc k) ds e b = ap (λ (t : List ℕ). 45 ∷ t) (sym e)

minus : (ds : List ℕ) (z : ℤ) → begins_count ds ≡ true → ParsesSigned {E = Unit {0}} w64 10 (45 ∷ ds) (Ok z) → 45 ∷ ds ≡ signed_decimal z
minus ds z b h =
    let r : OkIff {E = Unit {0}} (Ok z) (AllDigits 10 ds × (0 < length ds) × (digits_value 10 ds ≤ 2 ^ 63)) (neg_ℤ (pos (digits_value 10 ds))) = parse_signed_minus own {E = Unit {0}} w64 (45 ∷ ds) (Ok z) h refl in
    let f = count_first ds b in
    rw r.1 (minus_of (digits_value 10 ds) ds (decimal-digits_value own ds r.0.0 r.0.1 (λ q. absurd (omega arith)) (omega (arith, r.0.2))) b)

count_is : (bs : List ℕ) (z : ℤ) → begins_count bs ≡ true → ParsesSigned {E = Unit {0}} w64 10 bs (Ok z) → bs ≡ signed_decimal z
count_is bs z b h = let f = count_first bs b in plain bs z (λ q. omega arith) (λ q. omega arith) (λ q. absurd (omega arith)) h

by_first : (b c : ℕ) (bs : List ℕ) (z : ℤ) (minus_first : Bool) → (b == 45) ≡ minus_first → cond minus_first (begins_count (c ∷ bs)) (begins_count (b ∷ c ∷ bs)) ≡ true
    → ParsesSigned {E = Unit {0}} w64 10 (b ∷ c ∷ bs) (Ok z) → b ∷ c ∷ bs ≡ signed_decimal z
by_first b c bs z true q e h =
    let is : b ≡ 45 = grind (arith, nat_tests) in
    rw is (minus (c ∷ bs) z e (rw is at h))
by_first b c bs z false q e h = count_is (b ∷ c ∷ bs) z e h

by_zero : (b : ℕ) (z : ℤ) (zero_first : Bool) → (b == 48) ≡ zero_first → cond zero_first true (begins_count (b ∷ [])) ≡ true → ParsesSigned {E = Unit {0}} w64 10 (b ∷ []) (Ok z) → b ∷ [] ≡ signed_decimal z
by_zero b z true q e h = let is : b ≡ 48 = grind (arith, nat_tests) in plain (b ∷ []) z (λ p. omega arith) (λ p. omega arith) (λ p. refl) h
by_zero b z false q e h = count_is (b ∷ []) z e h

pub is_decimal : (bs : List ℕ) (z : ℤ) → begins_number bs ≡ true → ParsesSigned {E = Unit {0}} w64 10 bs (Ok z) → bs ≡ signed_decimal z
is_decimal [] z e h = cc e
is_decimal (b ∷ []) z e h = by_zero b z (b == 48) refl e h
is_decimal (b ∷ c ∷ bs) z e h = by_first b c bs z (b == 45) refl e h

pub fits_decimal : (bs : List ℕ) (z : ℤ) → ParsesSigned {E = Unit {0}} w64 10 bs (Ok z) → FitsSigned w64 z
fits_decimal bs z h = rw h.1 h.0.1

-- ---- digits, one after the other

-- so few digits leave room for one more
pub count_fits : (bs : List ℕ) (i n : ℕ) → length bs ≤ 18 → i < length bs → AllDigits 10 (take i bs) → n ≡ digits_value 10 (take i bs) → n < 10 ^ 17
count_fits bs i n few low digits is = rw is (digits_value_short own (take i bs) 17 digits (omega (arith, length-take-le i bs)))

pub count_next : (bs : List ℕ) (i n : ℕ) → i < length bs → 48 ≤ get_or bs i 0 → get_or bs i 0 ≤ 57 → AllDigits 10 (take i bs) → n ≡ digits_value 10 (take i bs)
    → AllDigits 10 (take (i + 1) bs) × (n * 10 + (get_or bs i 0 - 48) ≡ digits_value 10 (take (i + 1) bs))
count_next bs i n low from to digits is =
    let one = digit_value_digit (get_or bs i 0) (from, to) in
    let more = digits_value_more 10 bs i low in
    (digits_more 10 bs i low digits (omega arith), omega arith)

pub count_all : (bs : List ℕ) (i n : ℕ) → length bs ≤ 18 → length bs ≤ i → AllDigits 10 (take i bs) → n ≡ digits_value 10 (take i bs) → IsCount bs n
count_all bs i n few all digits is =
    let whole = take_all i bs all in
    let here : AllDigits 10 bs = rw whole at digits in
    let value : n ≡ digits_value 10 bs = rw whole at is in
    record { digits = here; number = value; short = omega (arith, digits_value_short own bs 18 here few) }

-- and then the decimal begins as one does
pub count_written : (bs : List ℕ) (n : ℕ) → begins_number bs ≡ true → IsCount bs n → bs ≡ decimal n
count_written bs n e h =
    rw h.number (sym (decimal-digits_value own bs h.digits (begins_some bs e) (zero_alone bs e) (omega (arith, h.number, h.short))))
