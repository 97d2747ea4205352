-- Numbers as `certificate_text` spells them.
use Rattle.std.proofs.Common.{◌≡◌, ℕ, zero, suc, ◌<◌, ◌^◌, sym, arith}
use Rattle.std.proofs.lemmas.Fmt.{decimal_digit, decimal-digits_of}
use Rattle.std.specs.Fmt.{decimal}
use Rattle.certificate_text.specs.Numerals.{numeral}

pub numeral-decimal : (n : ℕ) → n < 2 ^ 64 → numeral n ≡ decimal n
unfolding numeral
numeral-decimal zero small = sym (decimal_digit 0 (omega arith))
numeral-decimal (suc n) small = sym (decimal-digits_of (suc n) (omega arith) small)

pub short_decimal : (n : ℕ) → n < 2 ^ 32 → decimal n ≡ numeral n
short_decimal n small = sym (numeral-decimal n (omega (arith, small)))
