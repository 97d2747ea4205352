-- Lists of numbers that rise within bounds: no number stands twice, and lists within bounds of their own share none.
use Rattle.std.proofs.Common.{◌≡◌, refl, ◌∙◌, ℕ, ◌+◌, ◌≤◌, ◌<◌, Bool, true, false, not, ◌&&◌, ◌==◌, List, [], ◌∷◌, ◌++◌, arith}
use Prim.Native.Nat.{zero, suc}
use Rattle.std.specs.List.{range_with_len}
use Rattle.std.proofs.lemmas.Bool.{and_from, or_from, not_from_false, ne_eqb}
use Rattle.std.proofs.lemmas.List.Folds.{list_any-append}
use Rattle.query.specs.Bound.{is_among, all_differ, none_among}

-- the numbers rise from a on, and end below b
abbrev pub Rising : ℕ → ℕ → List ℕ → Type 0
Rising a b [] = a ≤ b
Rising a b (k ∷ numbers) = a ≤ k × Rising (k + 1) b numbers

-- no number of b or more is among them
abbrev pub AreBelow : ℕ → List ℕ → Type 0
AreBelow b numbers = (j : ℕ) → b ≤ j → is_among j numbers ≡ false

pub rising-bounds : (a b : ℕ) (numbers : List ℕ) → Rising a b numbers → a ≤ b
rising-bounds a b [] rises = rises
rising-bounds a b (k ∷ numbers) rises = let more = rising-bounds (k + 1) b numbers rises.1 in let first = rises.0 in omega arith

pub rising-from : (a b c : ℕ) (numbers : List ℕ) → a ≤ b → Rising b c numbers → Rising a c numbers
rising-from a b c [] le rises = omega arith
rising-from a b c (k ∷ numbers) le rises = (let first = rises.0 in omega arith, rises.1)

pub rising-append : (a b c : ℕ) (xs ys : List ℕ) → Rising a b xs → Rising b c ys → Rising a c (xs ++ ys)
rising-append a b c [] ys left right = rising-from a b c ys left right
rising-append a b c (k ∷ xs) ys left right = (left.0, rising-append (k + 1) b c xs ys left.1 right)

pub rising-range : (a n : ℕ) → Rising a (a + n) (range_with_len a n)
rising-range a zero = omega arith
rising-range a (suc n) = (omega arith, rising_to (rising-range (a + 1) n))
  where
    rising_to : Rising (a + 1) (a + 1 + n) (range_with_len (a + 1) n) → Rising (a + 1) (a + suc n) (range_with_len (a + 1) n)
    rising_to rises = let same : a + 1 + n ≡ a + suc n = omega arith in rw (← same) rises

-- what is less than the first is not among them
pub none-before : (a b j : ℕ) (numbers : List ℕ) → Rising a b numbers → j < a → is_among j numbers ≡ false
none-before a b j [] rises lt = refl
none-before a b j (k ∷ numbers) rises lt =
    let first = rises.0 in
    or_from _ _ (ne_eqb k j (λ e. omega (arith, e, first))) (none-before (k + 1) b j numbers rises.1 (omega arith))

pub rising-below : (a b : ℕ) (numbers : List ℕ) → Rising a b numbers → AreBelow b numbers
rising-below a b [] rises j le = refl
rising-below a b (k ∷ numbers) rises j le =
    let more = rising-bounds (k + 1) b numbers rises.1 in
    or_from _ _ (ne_eqb k j (λ e. omega (arith, e, more))) (rising-below (k + 1) b numbers rises.1 j le)

pub rising-differ : (a b : ℕ) (numbers : List ℕ) → Rising a b numbers → all_differ numbers ≡ true
rising-differ a b [] rises = refl
rising-differ a b (k ∷ numbers) rises = and_from _ _ (not_from_false _ (none-before (k + 1) b k numbers rises.1 (omega arith))) (rising-differ (k + 1) b numbers rises.1)

-- numbers from c on differ from those that end below c
pub apart : (a b c d : ℕ) (xs ys : List ℕ) → Rising c d xs → Rising a b ys → b ≤ c → all_differ (xs ++ ys) ≡ true
apart a b c d [] ys left right le = rising-differ a b ys right
apart a b c d (k ∷ xs) ys left right le =
    let first = left.0 in
    let none : is_among k (xs ++ ys) ≡ false =
    list_any-append (λ j. j == k) xs ys ∙ or_from _ _ (none-before (k + 1) d k xs left.1 (omega arith)) (rising-below a b ys right k (omega arith)) in
    and_from _ _ (not_from_false _ none) (apart a b (k + 1) d xs ys left.1 right (omega arith))

pub none-among : (a b c : ℕ) (xs others : List ℕ) → Rising a b xs → AreBelow c others → c ≤ a → none_among xs others ≡ true
none-among a b c [] others rises below le = refl
none-among a b c (k ∷ xs) others rises below le =
    let first = rises.0 in
    and_from _ _ (not_from_false _ (below k (omega arith))) (none-among (k + 1) b c xs others rises.1 below (omega arith))

pub none-among-append : (xs ys others : List ℕ) → none_among xs others ≡ true → none_among ys others ≡ true → none_among (xs ++ ys) others ≡ true
none-among-append [] ys others left right = right
none-among-append (k ∷ xs) ys others left right = by (not (is_among k others)) left (none-among-append xs ys others)
  where
    by : (b : Bool) → (b && none_among xs others) ≡ true → (none_among xs others ≡ true → none_among ys others ≡ true → none_among (xs ++ ys) others ≡ true) → (b && none_among (xs ++ ys) others) ≡ true
    by true h more = more h right
    by false h more = cc h

pub rising-to : (a b c : ℕ) (numbers : List ℕ) → b ≤ c → Rising a b numbers → Rising a c numbers
rising-to a b c [] le rises = omega arith
rising-to a b c (k ∷ numbers) le rises = (rises.0, rising-to (k + 1) b c numbers le rises.1)
