-- The order of numerals: by their lengths, and of one length by their bytes.
use Rattle.std.proofs.Common.{◌≡◌, ℕ, ◌+◌, ◌*◌, ◌<◌, ◌≤◌, [], ◌∷◌, length, refl, sym, ◌∙◌, ap, subst, inl, inr, arith, Bool, ◌↔◌, IsTrue, nat_lt, true, false, ◌==◌, if◌then◌else◌}
use Rattle.std.proofs.lemmas.Bool.{cases_order, eqb-true, eqb-false, false≢true, ltb-true, lt-ltb}
use Rattle.std.specs.Cmp.{ranks}
use Rattle.std.proofs.lemmas.Str.{digit_value_digit}
use Rattle.std.proofs.lemmas.Str.Parse.{digit_from_value}
use Rattle.std.specs.Char.{digit_value}
use Rattle.std.specs.Cmp.Lexicographic.{slice_cmp}
use Rattle.std.specs.Ordering.{MatchOrdering, nat_cmp, ordering_then, is_lt}
use Rattle.std.specs.declared.cmp.Ordering.{Ordering}
use Rattle.std.specs.declared.cmp.Ordering.TheVariants.{Less, Equal, Greater}
use Rattle.std.specs.Str.Parse.{AllDigits, digits_value, digits_value_after}
use Rattle.certificate_text.specs.PartTexts.{Text}
use Rattle.certificate_text.specs.Numerals.{numeral, is_numeral_below}
use Rattle.certificate_text.specs.Parts.{SpellsNumber}
use Rattle.certificate_text.proofs.Numerals.{HasNumeralForm, form_digits, numeral_has_form, numeral_tested, numeral_value}

-- as many digits behind a lesser number
after_less : (cs ds : Text) (a b : ℕ) → length cs ≡ length ds → AllDigits 10 cs → AllDigits 10 ds → a < b → digits_value_after 10 a cs < digits_value_after 10 b ds
after_less [] [] a b e h k l = l
after_less [] (d ∷ ds) a b e h k l = absurd (omega (arith, e))
after_less (c ∷ cs) [] a b e h k l = absurd (omega (arith, e))
after_less (c ∷ cs) (d ∷ ds) a b e h k l = after_less cs ds (a * 10 + digit_value c) (b * 10 + digit_value d) (omega (arith, e)) h.1 k.1 (omega (arith, l, h.0, k.0))

-- no more digits, behind none
longer : (cs ds : Text) (b : ℕ) → length cs ≤ length ds → AllDigits 10 cs → AllDigits 10 ds → 0 < b → digits_value_after 10 0 cs < digits_value_after 10 b ds
longer [] [] b e h k l = l
longer (c ∷ cs) [] b e h k l = absurd (omega (arith, e))
longer cs (d ∷ ds) b e h k l = elim (cases_order (length cs) (length (d ∷ ds))) [
  | inl p ↦ after_less cs (d ∷ ds) 0 b p h k l
  | inr o ↦ elim o [
    | inl p ↦ longer cs ds (b * 10 + digit_value d) (omega (arith, p)) h k.1 (omega (arith, l))
    | inr p ↦ absurd (omega (arith, p, e))
  ]
]

digit_less : (c d : ℕ) → digit_value c < 10 → digit_value d < 10 → c < d → digit_value c < digit_value d
digit_less c d h k l =
    let low = digit_from_value c h in
    let high = digit_from_value d k in
    omega (arith, l, low, high, digit_value_digit c low, digit_value_digit d high)

abbrev IsOrderOf : Ordering → ℕ → ℕ → Type 0
IsOrderOf r m n = MatchOrdering r (m < n) (m ≡ n) (n < m)

-- as many digits behind the same number
same_length : (cs ds : Text) (a : ℕ) → length cs ≡ length ds → AllDigits 10 cs → AllDigits 10 ds → IsOrderOf (slice_cmp nat_cmp cs ds) (digits_value_after 10 a cs) (digits_value_after 10 a ds)
same_length [] [] a e h k = refl
same_length [] (d ∷ ds) a e h k = absurd (omega (arith, e))
same_length (c ∷ cs) [] a e h k = absurd (omega (arith, e))
same_length (c ∷ cs) (d ∷ ds) a e h k = by (same_length cs ds (a * 10 + digit_value c) more h.1 k.1) (nat_cmp c d) (ranks c d) where
  more : length cs ≡ length ds
  more = omega (arith, e)

  by : IsOrderOf (slice_cmp nat_cmp cs ds) (digits_value_after 10 (a * 10 + digit_value c) cs) (digits_value_after 10 (a * 10 + digit_value c) ds)
      → (r : Ordering) → MatchOrdering r (c < d) (c ≡ d) (d < c) → IsOrderOf (ordering_then r (slice_cmp nat_cmp cs ds)) (digits_value_after 10 a (c ∷ cs)) (digits_value_after 10 a (d ∷ ds))
  by rest Less p = let l = digit_less c d h.0 k.0 p in after_less cs ds (a * 10 + digit_value c) (a * 10 + digit_value d) more h.1 k.1 (omega (arith, l))
  by rest Greater p = let l = digit_less d c k.0 h.0 p in after_less ds cs (a * 10 + digit_value d) (a * 10 + digit_value c) (sym more) k.1 h.1 (omega (arith, l))
  by rest Equal p = subst (λ d. IsOrderOf (slice_cmp nat_cmp cs ds) (digits_value_after 10 (a * 10 + digit_value c) cs) (digits_value_after 10 (a * 10 + digit_value d) ds)) p rest

digits : (n : ℕ) → AllDigits 10 (numeral n)
digits n = form_digits (numeral n) (numeral_tested n)

-- a shorter text of digits is below a numeral
shorter : (s t : Text) → 0 < length s → AllDigits 10 s → HasNumeralForm t → length s < length t → digits_value 10 s < digits_value 10 t
shorter s [] some h k l = absurd k
shorter s (d ∷ ds) some h (inl k) l = absurd (omega (arith, some, l, ap length k.1))
shorter s (d ∷ ds) some h (inr k) l =
    let range = digit_from_value d k.1.0 in
    let first = k.0 in
    longer s ds (0 * 10 + digit_value d) (omega (arith, l)) h k.1.1 (omega (arith, first, range, digit_value_digit d range))

nonempty : (t : Text) → HasNumeralForm t → 0 < length t
nonempty [] h = absurd h
nonempty (c ∷ cs) h = omega arith

shorter_numeral : (m n : ℕ) → length (numeral m) < length (numeral n) → m < n
shorter_numeral m n l =
    let less = shorter (numeral m) (numeral n) (nonempty (numeral m) (numeral_has_form m)) (digits m) (numeral_has_form n) l in
    omega (arith, less, numeral_value m, numeral_value n)

-- numbers whose texts aren't as long
other_length : (s t : Text) → (length s ≡ length t → ⊥) → (m n : ℕ) → SpellsNumber s m → SpellsNumber t n → IsTrue (nat_lt (length s) (length t)) ↔ (m < n)
other_length s t ne m n e f = (λ less. to (ltb-true (length s) (length t) less), from) where
  to : length s < length t → m < n
  to l = shorter_numeral m n (omega (arith, l, ap length e, ap length f))

  from : m < n → IsTrue (nat_lt (length s) (length t))
  from l = elim (cases_order (length s) (length t)) [
    | inl p ↦ absurd (ne p)
    | inr o ↦ elim o [
      | inl p ↦ lt-ltb (length s) (length t) p
      | inr p ↦ let more = shorter_numeral n m (omega (arith, p, ap length e, ap length f)) in absurd (omega (arith, l, more))
    ]
  ]

in_order : (m n : ℕ) → length (numeral m) ≡ length (numeral n) → IsOrderOf (slice_cmp nat_cmp (numeral m) (numeral n)) m n
in_order m n l =
    subst (λ k. IsOrderOf (slice_cmp nat_cmp (numeral m) (numeral n)) m k) (numeral_value n)
    (subst (λ k. IsOrderOf (slice_cmp nat_cmp (numeral m) (numeral n)) k (digits_value 10 (numeral n))) (numeral_value m) (same_length (numeral m) (numeral n) 0 l (digits m) (digits n)))

before : (r : Ordering) (less : Bool) (m n : ℕ) → less ≡ is_lt r → IsOrderOf r m n → IsTrue less ↔ (m < n)
before Less less m n e p = (λ t. p, λ l. e)
before Equal less m n e p = (λ t. absurd (false≢true (sym e ∙ t)), λ l. absurd (omega (arith, l, p)))
before Greater less m n e p = (λ t. absurd (false≢true (sym e ∙ t)), λ l. absurd (omega (arith, l, p)))

-- numbers whose texts are as long
one_length : (s t : Text) (less : Bool) → length s ≡ length t → less ≡ is_lt (slice_cmp nat_cmp s t) → (m n : ℕ) → SpellsNumber s m → SpellsNumber t n → IsTrue less ↔ (m < n)
one_length s t less l h m n e f =
    before (slice_cmp nat_cmp (numeral m) (numeral n)) less m n (h ∙ (λ i. is_lt (slice_cmp nat_cmp (e i) (f i)))) (in_order m n (sym (ap length e) ∙ l ∙ ap length f))

-- the test tells which of two numbers is below the other
pub numerals_below : (s t : Text) (m n : ℕ) → SpellsNumber s m → SpellsNumber t n → IsTrue (is_numeral_below s t) ↔ (m < n)
numerals_below s t m n e f = by (length s == length t) refl where
  by : (same : Bool) → (length s == length t) ≡ same → IsTrue (if same then is_lt (slice_cmp nat_cmp s t) else nat_lt (length s) (length t)) ↔ (m < n)
  by true is = one_length s t (is_lt (slice_cmp nat_cmp s t)) (eqb-true (length s) (length t) is) refl m n e f
  by false is = other_length s t (eqb-false (length s) (length t) is) m n e f
