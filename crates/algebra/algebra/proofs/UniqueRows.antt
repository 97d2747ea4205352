-- Sums over the first rows of each kind go by which kinds there are.
use Rattle.std.proofs.Common.{◌⊎◌, inl, inr, ◌≡◌, refl, ap, sym, ◌∙◌, ℕ, ◌+◌, ◌==◌, Bool, true, false, not, ◌||◌, if◌then◌else◌, List, [], ◌∷◌, filter, arith}
use Rattle.std.specs.Cmp.{both_ways}
use Rattle.std.specs.List.{list_any}
use Rattle.std.proofs.lemmas.Bool.{and_parts, and_from, or_left, or_right, or_cases, eqb-true}
use Rattle.values.specs.Order.{same}
use Rattle.values.proofs.Orders.{same_equal, same_itself}
use Rattle.algebra.specs.Columns.{has}
use Rattle.algebra.specs.Bags.{Env, total, same_on, distinct_on}
use Rattle.algebra.proofs.Lists.{distinct_by}
use Rattle.algebra.proofs.BagSums.{if_passes, total-filter, total-same, total-zero, total-split}

-- ---- the same in the columns

pub same_on-refl : (K : List ℕ) (r : Env) → same_on K r r ≡ true
same_on-refl [] r = refl
same_on-refl (k ∷ K) r = and_from _ _ (same_itself (r k)) (same_on-refl K r)

same-sym : (K : List ℕ) (r s : Env) → same_on K r s ≡ true → same_on K s r ≡ true
same-sym [] r s h = refl
same-sym (k ∷ K) r s h =
    let parts = and_parts (same (r k) (s k)) (same_on K r s) h in
    and_from _ _ (ap (λ v. same v (r k)) (sym (same_equal (r k) (s k) parts.0)) ∙ same_itself (r k)) (same-sym K r s parts.1)

pub same_on-sym : (K : List ℕ) (r s : Env) → same_on K r s ≡ same_on K s r
same_on-sym K r s = both_ways _ _ (same-sym K r s) (same-sym K s r)

pub same_on-along : (K : List ℕ) (r s t : Env) → same_on K r s ≡ true → same_on K r t ≡ same_on K s t
same_on-along [] r s t h = refl
same_on-along (k ∷ K) r s t h =
    let parts = and_parts (same (r k) (s k)) (same_on K r s) h in
    let front : same (r k) (t k) ≡ same (s k) (t k) = ap (λ v. same v (t k)) (same_equal (r k) (s k) parts.0) in
    rw (front, same_on-along K r s t parts.1) refl

-- rows that are the same in the columns read the same in each
pub same_on-reads : (K : List ℕ) (r s : Env) (c : ℕ) → same_on K r s ≡ true → has K c ≡ true → r c ≡ s c
same_on-reads [] r s c h in_ = cc
same_on-reads (k ∷ K) r s c h in_ =
    let parts = and_parts (same (r k) (s k)) (same_on K r s) h in
    elim (or_cases (k == c) (has K c) in_) [
      | inl is ↦ ap r (sym (eqb-true k c is)) ∙ same_equal (r k) (s k) parts.0 ∙ ap s (eqb-true k c is)
      | inr later ↦ same_on-reads K r s c parts.1 later
    ]

-- ---- sums over the first rows

-- whether a row is the same as one of a list
abbrev pub is_among : List ℕ → Env → List Env → Bool
is_among K r rows = list_any (same_on K r) rows

-- a number that is the same for rows that are the same in the columns
abbrev pub GoesBy : List ℕ → (Env → ℕ) → Type 0
GoesBy K f = (r s : Env) → same_on K r s ≡ true → f r ≡ f s

module _ (K : List ℕ) where
  abbrev same' : Env → Env → Bool
  same' = same_on K

  -- of the first rows at most one is the same as a row
  total-kind : (f : Env → ℕ) → GoesBy K f → (x : Env) (ys : List Env) → total (if_passes (same' x) f) (distinct_on K ys) ≡ (if is_among K x ys then f x else 0)
  total-kind f goes x [] = refl
  total-kind f goes x (y ∷ ys) =
      ap (λ n. if_passes (same' x) f y + n) (total-filter _ (λ z. not (same' y z)) (distinct_on K ys))
      ∙ by (same' x y) refl (total-kind f goes x ys)
    where
      here : same' x y ≡ true → (z : Env) → ◌≡◌ {A = ℕ} (if not (same' y z) then (if same' x z then f z else 0) else 0) 0
      here is z = ap (λ b. if not (same' y z) then (if b then f z else 0) else 0) (same_on-along K x y z is) ∙ never (same' y z) (f z)
        where
          never : (b : Bool) (n : ℕ) → ◌≡◌ {A = ℕ} (if not b then (if b then n else 0) else 0) 0
          never true n = refl
          never false n = refl

      apart : same' x y ≡ false → (z : Env) → (if not (same' y z) then (if same' x z then f z else 0) else 0) ≡ (if same' x z then f z else 0)
      apart isnt z = from (same' y z) refl
        where
          other : same' y z ≡ true → same' x z ≡ false
          other h = same_on-sym K x z ∙ sym (same_on-along K y z x h) ∙ same_on-sym K y x ∙ isnt

          from : (b : Bool) → same' y z ≡ b → (if not b then (if same' x z then f z else 0) else 0) ≡ (if same' x z then f z else 0)
          from true h = ap (λ b. if b then f z else 0) (sym (other h))
          from false h = refl

      by : (b : Bool) → same' x y ≡ b → total (if_passes (same' x) f) (distinct_on K ys) ≡ (if is_among K x ys then f x else 0)
          → (if b then f y else 0) + total (if_passes (λ z. not (same' y z)) (if_passes (same' x) f)) (distinct_on K ys) ≡ (if b || is_among K x ys then f x else 0)
      by true is later = ap (λ n. f y + n) (total-zero _ (here is) (distinct_on K ys)) ∙ (let e : f x ≡ f y = goes x y is in omega arith)
      by false isnt later = ap (λ n. 0 + n) (total-same _ _ (apart isnt) (distinct_on K ys)) ∙ (let plain : (n : ℕ) → 0 + n ≡ n = λ n. omega arith in plain _) ∙ later

  -- no row of a kind that has a number
  total-none : (f : Env → ℕ) (ys : List Env) → ((r : Env) → is_among K r ys ≡ true → f r ≡ 0) → total f (distinct_on K ys) ≡ 0
  total-none f [] none = refl
  total-none f (y ∷ ys) none =
      let here : f y ≡ 0 = none y (or_left _ _ (same_on-refl K y)) in
      let later : total (if_passes (λ z. not (same' y z)) f) (distinct_on K ys) ≡ 0 = total-none (if_passes (λ z. not (same' y z)) f) ys (λ r h. gone (not (same' y r)) (f r) (none r (or_right _ _ h))) in
      rw (total-filter f (λ z. not (same' y z)) (distinct_on K ys)) (omega arith)
    where
      gone : (b : Bool) (n : ℕ) → n ≡ 0 → (if b then n else 0) ≡ 0
      gone true n h = h
      gone false n h = refl

  -- lists with the same kinds have the same sums over the first rows
  pub total-kinds : (f : Env → ℕ) → GoesBy K f → (xs ys : List Env) → ((r : Env) → (f r ≡ 0) ⊎ (is_among K r xs ≡ is_among K r ys)) → total f (distinct_on K xs) ≡ total f (distinct_on K ys)
  total-kinds f goes [] ys kinds = sym (total-none f ys (λ r among. by (kinds r) among))
    where
      by : {n : ℕ} {b : Bool} → (n ≡ 0) ⊎ (false ≡ b) → b ≡ true → n ≡ 0
      by (inl e) h = e
      by (inr e) h = cc
  total-kinds f goes (x ∷ xs) ys kinds =
      ap (λ n. f x + n) (total-filter f (λ z. not (same' x z)) (distinct_on K xs) ∙ total-kinds (if_passes (λ z. not (same' x z)) f) still xs ys others)
      ∙ ap (λ n. n + total (if_passes (λ z. not (same' x z)) f) (distinct_on K ys)) (first (kinds x) ∙ sym (total-kind f goes x ys))
      ∙ sym (total-split (same' x) f (distinct_on K ys))
    where
      still : GoesBy K (if_passes (λ z. not (same' x z)) f)
      still r s h = rw (goes r s h, same_on-sym K x r ∙ same_on-along K r s x h ∙ same_on-sym K s x) refl

      first : (f x ≡ 0) ⊎ ((same' x x || is_among K x xs) ≡ is_among K x ys) → f x ≡ (if is_among K x ys then f x else 0)
      first (inl e) = rw e (none (is_among K x ys))
        where
          none : (b : Bool) → ◌≡◌ {A = ℕ} 0 (if b then 0 else 0)
          none true = refl
          none false = refl
      first (inr e) = ap (λ b. if b then f x else 0) (sym (or_left _ _ (same_on-refl K x)) ∙ e)

      others : (r : Env) → (if_passes (λ z. not (same' x z)) f r ≡ 0) ⊎ (is_among K r xs ≡ is_among K r ys)
      others r = by (same' x r) (same_on-sym K r x) (kinds r)
        where
          by : (b : Bool) → same' r x ≡ b → (f r ≡ 0) ⊎ ((same' r x || is_among K r xs) ≡ is_among K r ys) → ((if not b then f r else 0) ≡ 0) ⊎ (is_among K r xs ≡ is_among K r ys)
          by true is h = inl refl
          by false isnt (inl e) = inl e
          by false isnt (inr e) = inr (ap (λ b. b || is_among K r xs) (sym isnt) ∙ e)

-- ---- one of each

pub distinct_on-by : (K : List ℕ) (L : List Env) → distinct_on K L ≡ distinct_by (same_on K) L
distinct_on-by K [] = refl
distinct_on-by K (r ∷ L) = ap (λ ys. r ∷ filter (λ s. not (same_on K r s)) ys) (distinct_on-by K L)
