-- Sums and products of numbers that are cut.
use Rattle.std.proofs.Common.{◌≡◌, refl, ap, sym, ◌∙◌, ℕ, zero, suc, ◌+◌, ◌-◌, ◌*◌, ◌^◌, ◌<◌, ◌≤◌, min, Bool, true, false, nat_lt, if◌then◌else◌, arith}
use Rattle.std.proofs.Math.Nat.{zero-mul}
use Rattle.std.proofs.lemmas.Bool.{ltb-true, ltb-false}
use Rattle.costs.specs.Numbers.{cut}

times-more : (n a : ℕ) → n ≤ suc a * n
times-more n a = omega arith

-- up to a most number
min-product : (m a b : ℕ) → min (a * min b m) m ≡ min (a * b) m
min-product m zero b = rw (zero-mul (min b m), zero-mul b) refl
min-product m (suc a) b = by (nat_lt m b) refl
  where
    by : (t : Bool) → nat_lt m b ≡ t → min (suc a * min b m) m ≡ min (suc a * b) m
    by true above =
        let lt : m < b = ltb-true m b above in
        let is : min b m ≡ m = omega (arith, lt) in
        let less : m ≤ suc a * m = times-more m a in
        let more : b ≤ suc a * b = times-more b a in
        rw is (omega (arith, lt, less, more))
    by false within =
        let le : b ≤ m = ltb-false m b within in
        let is : min b m ≡ b = omega (arith, le) in
        rw is refl

pub cut-more : (a b : ℕ) → cut (a + cut b) ≡ cut (a + b)
unfolding cut
cut-more a b = omega arith

pub cut-less : (a b : ℕ) → cut (cut a + b) ≡ cut (a + b)
unfolding cut
cut-less a b = omega arith

pub cut-times : (a b : ℕ) → cut (a * cut b) ≡ cut (a * b)
unfolding cut
cut-times a b = min-product (2 ^ 64 - 1) a b

pub cut-each : (a b c : ℕ) → cut (a + b * cut c) ≡ cut (a + b * c)
cut-each a b c = sym (cut-more a (b * cut c)) ∙ ap (λ n. cut (a + n)) (cut-times b c) ∙ cut-more a (b * c)

pub cut-le : (a b : ℕ) → a ≤ b → cut a ≤ cut b
unfolding cut
cut-le a b le = omega (arith, le)

-- one row by a unique index
pub cut_one_row : (b : Bool) (n : ℕ) → b ≡ true → 210 ≡ cut (if b then 210 else n)
unfolding cut
cut_one_row b n is = rw is refl
