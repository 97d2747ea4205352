-- Where a text may be cut behind its first bytes.
use Rattle.std.proofs.Common.{◌≡◌, ◌==◌, ◌<◌, ◌+◌, ℕ, suc, if◌then◌else◌, Bool, true, false, [], ◌∷◌, get_or, take, refl, sym, subst, arith}
use Rattle.std.proofs.lemmas.Bool.Decides.{nat_tests}
use Rattle.std.proofs.lemmas.List.{get_or-take, length-take-le}
use Rattle.std.proofs.lemmas.List.Sums.{prefix_len_passes, prefix_len-le-length}
use Rattle.std.proofs.lemmas.Str.{IsCharBoundary-from_take, IsUtf8-from_ascii}
use Rattle.std.proofs.lemmas.Str.Ascii.{IsAscii-from_reads, IsAscii-cons}
use Rattle.std.specs.Char.{is_ascii_digit}
use Rattle.std.specs.List.{prefix_len}
use Rattle.std.specs.Str.{IsUtf8, IsAscii, IsCharBoundary}
use Rattle.sql_parse.specs.Tokens.{Bytes, is_space, is_word_character}
use Rattle.sql_parse.specs.Reading.{IsCut, word_len, digits_len, number_len}

-- a text may be cut behind ASCII
pub boundary : (bs : Bytes) (n : ℕ) → IsUtf8 bs → IsCut bs n → IsCharBoundary bs n
boundary bs n text h = IsCharBoundary-from_take bs n text h.within (IsUtf8-from_ascii (take n bs) h.ascii)

-- the first bytes that pass a test of ASCII
pub ascii_run : (p : ℕ → Bool) → ((c : ℕ) → p c ≡ true → c < 128) → (bs : Bytes) → IsAscii (take (prefix_len p bs) bs)
ascii_run p low bs =
    let n = prefix_len p bs in
    let within = prefix_len-le-length p bs in
    let long = length-take-le n bs within in
    IsAscii-from_reads (take n bs) n (omega arith) (λ k h. subst (λ x. x < 128) (sym (get_or-take n bs k 0 h)) (low (get_or bs k 0) (prefix_len_passes p bs k 0 h)))

digit_low : (c : ℕ) → is_ascii_digit c ≡ true → c < 128
digit_low c h = grind (arith, nat_tests)

word_low : (c : ℕ) → is_word_character c ≡ true → c < 128
word_low c h = grind (arith, nat_tests)

pub word_cut : (bs : Bytes) → IsCut bs (word_len bs)
word_cut bs = record { within = prefix_len-le-length is_word_character bs; ascii = ascii_run is_word_character word_low bs }

pub digits_cut : (bs : Bytes) → IsCut bs (digits_len bs)
digits_cut bs = record { within = prefix_len-le-length is_ascii_digit bs; ascii = ascii_run is_ascii_digit digit_low bs }

pub cons_cut : (c : ℕ) (bs : Bytes) (n : ℕ) → c < 128 → IsCut bs n → IsCut (c ∷ bs) (1 + n)
cons_cut c bs n low h =
    let m : 1 + n ≡ suc n = omega arith in
    let w = h.within in
    record { within = omega arith; ascii = subst (λ k. IsAscii (take k (c ∷ bs))) (sym m) (IsAscii-cons c (take n bs) low h.ascii) }

pub number_cut : (bs : Bytes) → IsCut bs (number_len bs)
unfolding number_len
number_cut [] = digits_cut []
number_cut (c ∷ z) = one (c == 45) refl where
  one : (b : Bool) → (c == 45) ≡ b → IsCut (c ∷ z) (if b then 1 + digits_len z else digits_len (c ∷ z))
  one true e = let f : c < 128 = grind (arith, nat_tests) in cons_cut c z (digits_len z) f (digits_cut z)
  one false e = digits_cut (c ∷ z)

space_low : (c : ℕ) → is_space c ≡ true → c < 128
space_low c h = grind (arith, nat_tests)

pub space_cut : (bs : Bytes) → IsCut bs (prefix_len is_space bs)
space_cut bs = record { within = prefix_len-le-length is_space bs; ascii = ascii_run is_space space_low bs }
