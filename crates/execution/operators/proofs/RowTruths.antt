-- What is found of each row, in whatever order the rows come.
use Rattle.std.proofs.Common.{◌≡◌, refl, sym, ◌∙◌, subst, ℕ, ◌+◌, ◌<◌, ◌≤◌, ◌==◌, Bool, true, false, ◌⊎◌, inl, inr, List, length, get_or, set, take, arith, zero-add}
use Rattle.std.specs.List.{Contains, range_with_len}
use Rattle.std.specs.List.Sorted.{IsPermutation}
use Rattle.std.proofs.lemmas.Bool.{eqb-true, eqb-false}
use Rattle.std.proofs.lemmas.List.{get_or-set_same, get_or-set_other, take_all, take_more}
use Rattle.std.proofs.lemmas.List.Elements.{All-from_get_or, Contains-get_or, Contains-push_cases}
use Rattle.std.proofs.lemmas.List.FromFn.{get_or-range_with_len, length-range_with_len}
use Rattle.std.proofs.lemmas.List.Sorted.{All-permutation, Contains-permutation}

-- numbers in another order are below their count
pub order-below : (count : ℕ) (order : List ℕ) (i d : ℕ) → IsPermutation (range_with_len 0 count) order → i < length order → get_or order i d < count
order-below count order i d moved lt =
    All-permutation (λ n. n < count) (range_with_len 0 count) order moved (All-from_get_or (λ n. n < count) (range_with_len 0 count) 0 (λ j short.
    let many = length-range_with_len 0 count in
    let here = get_or-range_with_len 0 count j 0 (omega (arith, many, short)) in
    omega (arith, many, short, here))) i d lt

-- and each is there
order-all : (count : ℕ) (order : List ℕ) (n : ℕ) → IsPermutation (range_with_len 0 count) order → n < count → Contains order n
order-all count order n moved lt =
    let many = length-range_with_len 0 count in
    Contains-permutation (range_with_len 0 count) order n moved
    (subst (Contains (range_with_len 0 count)) (get_or-range_with_len 0 count n 0 lt ∙ zero-add n) (Contains-get_or (range_with_len 0 count) n 0 (omega (arith, many, lt))))

module _ (p : ℕ → Bool) where
  -- the rows up to one in the order have their truths
  pub truths-more : (order : List ℕ) (truths : List Bool) (i : ℕ) (b : Bool) → i < length order → get_or order i 0 < length truths → b ≡ p (get_or order i 0)
      → ((n : ℕ) → Contains (take i order) n → get_or truths n false ≡ p n) → (n : ℕ) → Contains (take (i + 1) order) n → get_or (set truths (get_or order i 0) b) n false ≡ p n
  truths-more order truths i b lt below here before n in_ =
      by (n == x) refl (Contains-push_cases (take i order) x n (subst (λ l. Contains l n) (take_more order i 0 lt) in_))
    where
      x : ℕ
      x = get_or order i 0

      by : (c : Bool) → (n == x) ≡ c → Contains (take i order) n ⊎ (x ≡ n) → get_or (set truths x b) n false ≡ p n
      by true same cases = rw (eqb-true n x same) (get_or-set_same truths x b false below ∙ here)
      by false other (inl earlier) = get_or-set_other truths x n b false (eqb-false n x other) ∙ before n earlier
      by false other (inr now) = absurd (eqb-false n x other (sym now))

  -- and in the end all do
  pub truths-all : (count : ℕ) (order : List ℕ) (truths : List Bool) (i : ℕ) → IsPermutation (range_with_len 0 count) order → length order ≤ i
      → ((n : ℕ) → Contains (take i order) n → get_or truths n false ≡ p n) → (n : ℕ) → n < count → get_or truths n false ≡ p n
  truths-all count order truths i moved le before n lt =
      before n (subst (λ l. Contains l n) (sym (take_all i order le)) (order-all count order n moved lt))
