-- Groups of rows that stand together: a row has the group of the row before it, or founds the next one.
use Rattle.std.proofs.Common.{◌≡◌, refl, ap, sym, ◌∙◌, ℕ, zero, suc, ◌+◌, ◌-◌, ◌<◌, ◌≤◌, Bool, true, false, if◌then◌else◌, [], length, arith, add-one}
use Rattle.std.specs.List.{AllByRecursion, range_with_len}
use Rattle.std.specs.Cmp.{IsEquivalence}
use Rattle.grouping.specs.Groups.{StandTogether, continues, first_seen}
use Rattle.grouping.proofs.FirstSeen.{place, place-again, place-new}
use Rattle.store.proofs.IndexLists.{numbers_more}

pub all-numbers : (P : ℕ → Type 0) (a n : ℕ) → ((i : ℕ) → a ≤ i → i < a + n → P i) → AllByRecursion P (range_with_len a n)
all-numbers P a zero each = tt
all-numbers P a (suc n) each = (each a (omega arith) (omega arith), all-numbers P (a + 1) n (λ i low high. each i (omega (arith, low)) (omega (arith, high))))

-- behind the first row, it is whether the row is the same as the one before it
pub continues-before : (same : ℕ → ℕ → Bool) (n : ℕ) → 0 < n → continues same n ≡ same n (n - 1)
continues-before same zero some = absurd (omega (arith, some))
continues-before same (suc m) some = let e : suc m - 1 ≡ m = omega arith in ap (same (suc m)) (sym e)

module _ {K : Type 0} (key : ℕ → K) (eq : K → K → Bool) (law : IsEquivalence eq) where
  abbrev same : ℕ → ℕ → Bool
  same m n = eq (key m) (key n)

  abbrev place_of : ℕ → ℕ → ℕ
  place_of n r = place key eq law (range_with_len 0 n) r

  -- a row unlike the one before it is unlike all before it
  unlike-earlier : (count n : ℕ) → StandTogether same count → suc n < count → same (suc n) n ≡ false → (x : ℕ) → x < suc n → same (suc n) x ≡ false
  unlike-earlier count n together below unlike x earlier = law.symm (key (suc n)) (key x) ∙ by (same x (suc n)) refl
    where
      by : (b : Bool) → same x (suc n) ≡ b → b ≡ false
      by true is = absurd (let e : true ≡ false = sym (together x n (suc n) (omega (arith, earlier)) (omega arith) below is) ∙ law.congr (key x) (key (suc n)) (key n) is ∙ unlike in cc)
      by false is = refl

  -- the number of a row's group
  pub run-place : (count n before next : ℕ) → StandTogether same count → n < count → ((m : ℕ) → n ≡ m + 1 → before ≡ place_of m m) → next ≡ length (first_seen same (range_with_len 0 n))
      → (if continues same n then before else next) ≡ place_of n n
  run-place count zero before next together below earlier many = many ∙ sym (place-new key eq law [] 0 tt)
  run-place count (suc m) before next together below earlier many = by (same (suc m) m) refl
    where
      by : (b : Bool) → same (suc m) m ≡ b → (if b then before else next) ≡ place_of (suc m) (suc m)
      by true is =
          earlier m (omega arith) ∙ sym (place-again key eq law (range_with_len 0 m) m (suc m) is)
          ∙ ap (λ rows. place key eq law rows (suc m)) (sym (numbers_more m) ∙ ap (range_with_len 0) (add-one m))
      by false is =
          many ∙ sym (place-new key eq law (range_with_len 0 (suc m)) (suc m) (all-numbers (λ x. same (suc m) x ≡ false) 0 (suc m) (λ x low high. unlike-earlier count m together below is x (omega (arith, high)))))
