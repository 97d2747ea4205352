-- How many rows of a bag pass, as it is made of others: from which keys and columns without Null follow.
use Rattle.std.proofs.Common.{◌≡◌, refl, ap, sym, ◌∙◌, inl, inr, ℕ, ◌+◌, ◌≤◌, ◌==◌, Bool, true, false, not, ◌&&◌, if◌then◌else◌, List, [], ◌∷◌, map, filter, arith}
use Rattle.std.proofs.lemmas.Bool.{or_left, or_right, eq-eqb, eqb-true, cases_Bool}
use Rattle.std.proofs.Math.Nat.{le_trans}
use Rattle.values.specs.Order.{same}
use Rattle.query.specs.Meaning.{or_else_row}
use Rattle.algebra.specs.Columns.{ColumnSet, has}
use Rattle.algebra.specs.Bags.{Env, Test, Bag, total, lay, nulls, same_on, matches, join, left_join, distinct_on}
use Rattle.algebra.proofs.BagSums.{if_passes, total-map, total-filter, total-flat_map, total-same, total-zero, total-or_else_row}
use Rattle.algebra.proofs.UniqueRows.{same_on-along}
use Rattle.laws.specs.Keys.{count, has_null, IsWeakKey, IsSingle}
use Rattle.laws.specs.Rewriting.{Ignores}
use Rattle.laws.proofs.DistinctRows.{count_fewer}
use Rattle.laws.proofs.JoinSums.{when_both, when_swap, total_when, total_le, total_join, total_matches}

le_same : {m n : ℕ} → m ≡ n → m ≤ n
le_same h = omega arith

when_le : (b : Bool) (m n : ℕ) → m ≤ n → (if b then m else 0) ≤ (if b then n else 0)
when_le true m n h = h
when_le false m n h = omega arith

when_less : (b : Bool) (n : ℕ) → (if b then n else 0) ≤ n
when_less true n = omega arith
when_less false n = omega arith

-- ---- fewer rows, and other rows

pub count_filter : (q p : Test) (xs : List Env) → count q (filter p xs) ≤ count q xs
count_filter q p xs = le_trans (le_same (total-filter (λ r. if q r then 1 else 0) p xs)) (total_le _ _ (λ r. when_less (p r) _) xs)

pub count_map : (q : Test) (g : Env → Env) (xs : List Env) → count q (map g xs) ≡ count (λ r. q (g r)) xs
count_map q g xs = total-map (λ r. if q r then 1 else 0) g xs

pub count_same : (p q : Test) → ((r : Env) → p r ≡ q r) → (xs : List Env) → count p xs ≡ count q xs
count_same p q same xs = total-same _ _ (λ r. ap (λ b. if b then 1 else 0) (same r)) xs

pub count_distinct : (q : Test) (K : List ℕ) (xs : List Env) → count q (distinct_on K xs) ≤ count q xs
count_distinct q K [] = omega arith
count_distinct q K (x ∷ xs) =
    let fewer : count q (filter (λ s. not (same_on K x s)) (distinct_on K xs)) ≤ count q (distinct_on K xs) = count_filter q (λ s. not (same_on K x s)) (distinct_on K xs) in
    let later : count q (distinct_on K xs) ≤ count q xs = count_distinct q K xs in
    omega (arith, fewer, later)

-- of one of each kind at most one is the same as a row
pub count_once : (K : List ℕ) (r : Env) (xs : List Env) → count (same_on K r) (distinct_on K xs) ≤ 1
count_once K r [] = omega arith
count_once K r (x ∷ xs) = by (same_on K r x) refl (count_once K r xs)
  where
    rest : List Env
    rest = distinct_on K xs

    gone : same_on K r x ≡ true → (s : Env) → ◌≡◌ {A = ℕ} (if not (same_on K x s) then (if same_on K r s then 1 else 0) else 0) 0
    gone is s = rw (same_on-along K r x s is) (zero (same_on K x s))
      where
        zero : (b : Bool) → ◌≡◌ {A = ℕ} (if not b then (if b then 1 else 0) else 0) 0
        zero true = refl
        zero false = refl

    by : (b : Bool) → same_on K r x ≡ b → count (same_on K r) rest ≤ 1 → (if b then 1 else 0) + count (same_on K r) (filter (λ s. not (same_on K x s)) rest) ≤ 1
    by true is later =
        let none : count (same_on K r) (filter (λ s. not (same_on K x s)) rest) ≡ 0 = total-filter (λ s. if same_on K r s then 1 else 0) (λ s. not (same_on K x s)) rest ∙ total-zero _ (gone is) rest in
        omega (arith, none)
    by false is later = let fewer : count (same_on K r) (filter (λ s. not (same_on K x s)) rest) ≤ count (same_on K r) rest = count_filter (same_on K r) (λ s. not (same_on K x s)) rest in omega (arith, fewer, later)

-- where no row is bad, a sum of which only bad rows take part is nothing
pub total_none : (bad : Test) (g : Env → ℕ) → ((r : Env) → bad r ≡ false → g r ≡ 0) → (xs : List Env) → count bad xs ≡ 0 → total g xs ≡ 0
total_none bad g good [] none = refl
total_none bad g good (x ∷ xs) none = by (bad x) (good x) none (total_none bad g good xs)
  where
    by : (b : Bool) → (b ≡ false → g x ≡ 0) → (if b then 1 else 0) + count bad xs ≡ 0 → (count bad xs ≡ 0 → total g xs ≡ 0) → g x + total g xs ≡ 0
    by true here none later = absurd (omega (arith, none))
    by false here none later = let first : g x ≡ 0 = here refl in let others : total g xs ≡ 0 = later (omega (arith, none)) in omega (arith, first, others)

-- a row that passes, where there is one
pub found : (p : Test) (xs : List Env) → (count p xs ≡ 0 → ⊥) → (s : Env) × (p s ≡ true)
found p [] some = absurd (some refl)
found p (x ∷ xs) some = by (p x) refl some (found p xs)
  where
    by : (b : Bool) → p x ≡ b → ((if b then 1 else 0) + count p xs ≡ 0 → ⊥) → ((count p xs ≡ 0 → ⊥) → (s : Env) × (p s ≡ true)) → (s : Env) × (p s ≡ true)
    by true is some later = (x, is)
    by false is some later = later (λ none. some (omega (arith, none)))

-- ---- sets of columns

-- columns outside a set are read beside it, and columns of it within
pub agree_beside : (K : List ℕ) (B : ColumnSet) → ((c : ℕ) → has K c ≡ true → B c ≡ false) → (r s t : Env) → same_on K r (lay B s t) ≡ same_on K r t
agree_beside [] B apart r s t = refl
agree_beside (k ∷ K) B apart r s t = rw (apart k (or_left (k == k) (has K k) (eq-eqb k k refl)), agree_beside K B (λ c in_. apart c (or_right (k == c) (has K c) in_)) r s t) refl

pub agree_within_set : (K : List ℕ) (B : ColumnSet) → ((c : ℕ) → has K c ≡ true → B c ≡ true) → (r s t : Env) → same_on K r (lay B s t) ≡ same_on K r s
agree_within_set [] B within r s t = refl
agree_within_set (k ∷ K) B within r s t = rw (within k (or_left (k == k) (has K k) (eq-eqb k k refl)), agree_within_set K B (λ c in_. within c (or_right (k == c) (has K c) in_)) r s t) refl

-- ---- joins

-- a test of the left row, where no left row finds two matches
pub count_join : (u p : Test) (B : ColumnSet) (a b : Bag) → Ignores B u → IsSingle p B b → (e : Env) → count u (join p B a b e) ≤ count u (a e)
count_join u p B a b ignores single e = le_trans (le_same (total_join (λ w. if u w then 1 else 0) p B a b e)) (total_le _ _ (λ t. le_trans (le_same (each t)) (when_le (u t) _ 1 (single e t))) (a e))
  where
    each : (t : Env) → total (λ s. if p (lay B s t) then (if u (lay B s t) then 1 else 0) else 0) (b e) ≡ (if u t then count (λ s. p (lay B s t)) (b e) else 0)
    each t =
        total-same _ _ (λ s. ap (λ v. if p (lay B s t) then (if v then 1 else 0) else 0) (ignores t s) ∙ when_swap (p (lay B s t)) (u t) 1) (b e)
        ∙ total_when (u t) (λ s. if p (lay B s t) then 1 else 0) (b e)

-- a test of the left row and one of the right row
module _ (u v p : Test) (B : ColumnSet) (a b : Bag) (ignores : Ignores B u) (reads : (s t : Env) → v (lay B s t) ≡ v s) (e : Env) (one : count v (b e) ≤ 1) where
  pair_le : (s t : Env) → (if p (lay B s t) then (if u (lay B s t) && v (lay B s t) then 1 else 0) else 0) ≤ (if u t then (if v s then 1 else 0) else 0)
  pair_le s t = rw (ignores t s, reads s t, when_both (u t) (v s) 1) (when_less (p (lay B s t)) _)

  pairs_le : (t : Env) → total (λ s. if p (lay B s t) then (if u (lay B s t) && v (lay B s t) then 1 else 0) else 0) (b e) ≤ (if u t then 1 else 0)
  pairs_le t = le_trans (total_le _ _ (λ s. pair_le s t) (b e)) (le_trans (le_same (total_when (u t) (λ s. if v s then 1 else 0) (b e))) (when_le (u t) _ 1 one))

  pub count_pairs : count (λ w. u w && v w) (join p B a b e) ≤ count u (a e)
  count_pairs = le_trans (le_same (total_join (λ w. if u w && v w then 1 else 0) p B a b e)) (total_le _ _ pairs_le (a e))

-- a bad row of a join has a bad left row
pub count_bad : (bad p : Test) (B : ColumnSet) (a b : Bag) → Ignores B bad → (e : Env) → count bad (a e) ≡ 0 → count bad (join p B a b e) ≡ 0
count_bad bad p B a b ignores e none =
    total_join (λ w. if bad w then 1 else 0) p B a b e
    ∙ total_none bad _ (λ t good. total-zero _ (λ s. rw (ignores t s ∙ good) (zero (p (lay B s t)))) (b e)) (a e) none
  where
    zero : (b : Bool) → ◌≡◌ {A = ℕ} (if b then 0 else 0) 0
    zero true = refl
    zero false = refl

-- ---- left joins

-- a sum over a left row's pairs, or over the row with Nulls
pub total_padded : (f : Env → ℕ) (p : Test) (B : ColumnSet) (rows : List Env) (t : Env)
    → total f (or_else_row (lay B nulls t) (matches p B rows t)) ≡ total (λ s. if_passes p f (lay B s t)) rows + (if count (λ s. p (lay B s t)) rows == 0 then f (lay B nulls t) else 0)
total_padded f p B rows t =
    total-or_else_row f (lay B nulls t) (matches p B rows t)
    ∙ both (total_matches f p B rows t) (total_matches (λ r. 1) p B rows t)
  where
    both : {m n k l : ℕ} → m ≡ n → k ≡ l → m + (if k == 0 then f (lay B nulls t) else 0) ≡ n + (if l == 0 then f (lay B nulls t) else 0)
    both g h = rw (g, h) refl

pub total_left : (f : Env → ℕ) (p : Test) (B : ColumnSet) (a b : Bag) (e : Env)
    → total f (left_join p B a b e) ≡ total (λ t. total (λ s. if_passes p f (lay B s t)) (b e) + (if count (λ s. p (lay B s t)) (b e) == 0 then f (lay B nulls t) else 0)) (a e)
total_left f p B a b e = total-flat_map f _ (a e) ∙ total-same _ _ (total_padded f p B (b e)) (a e)

-- nothing passes both of two tests where nothing passes the first
none_pass : (p : Test) (g : Env → ℕ) (xs : List Env) → count p xs ≡ 0 → total (λ s. if p s then g s else 0) xs ≡ 0
none_pass p g xs none = total_none p _ (λ s is. rw is refl) xs none

-- at most one match, or the row with Nulls
one_or_pad : (m n k : ℕ) → m ≤ 1 → n ≤ k → (m ≡ 0 → n ≡ 0) → (p : ℕ) → p ≤ k → n + (if m == 0 then p else 0) ≤ k
one_or_pad m n k one le none p pad = by (m == 0) refl
  where
    by : (b : Bool) → (m == 0) ≡ b → n + (if b then p else 0) ≤ k
    by true is = let nothing : n ≡ 0 = none (eqb-true m 0 is) in omega (arith, nothing, pad)
    by false is = omega (arith, le)

pub count_left : (u p : Test) (B : ColumnSet) (a b : Bag) → Ignores B u → IsSingle p B b → (e : Env) → count u (left_join p B a b e) ≤ count u (a e)
count_left u p B a b ignores single e = le_trans (le_same (total_left (λ w. if u w then 1 else 0) p B a b e)) (total_le _ _ each (a e))
  where
    matched : (t : Env) → total (λ s. if p (lay B s t) then (if u (lay B s t) then 1 else 0) else 0) (b e) ≡ (if u t then count (λ s. p (lay B s t)) (b e) else 0)
    matched t =
        total-same _ _ (λ s. ap (λ v. if p (lay B s t) then (if v then 1 else 0) else 0) (ignores t s) ∙ when_swap (p (lay B s t)) (u t) 1) (b e)
        ∙ total_when (u t) (λ s. if p (lay B s t) then 1 else 0) (b e)

    each : (t : Env) → total (λ s. if p (lay B s t) then (if u (lay B s t) then 1 else 0) else 0) (b e) + (if count (λ s. p (lay B s t)) (b e) == 0 then (if u (lay B nulls t) then 1 else 0) else 0) ≤ (if u t then 1 else 0)
    each t = one_or_pad (count (λ s. p (lay B s t)) (b e)) _ (if u t then 1 else 0) (single e t)
        (le_trans (le_same (matched t)) (when_le (u t) _ 1 (single e t)))
        (λ none. none_pass (λ s. p (lay B s t)) (λ s. if u (lay B s t) then 1 else 0) (b e) none) _ (le_same (ap (λ v. if v then 1 else 0) (ignores t nulls)))

-- a left row has pairs, or stands with Nulls, and not both
pub count_padded_pairs : (u v p : Test) (B : ColumnSet) (a b : Bag) → Ignores B u → ((s t : Env) → v (lay B s t) ≡ v s) → (e : Env) → count v (b e) ≤ 1
    → count (λ w. u w && v w) (left_join p B a b e) ≤ count u (a e)
count_padded_pairs u v p B a b ignores reads e one = le_trans (le_same (total_left (λ w. if u w && v w then 1 else 0) p B a b e)) (total_le _ _ each (a e))
  where
    or_pad : (m n k : ℕ) → n ≤ k → (m ≡ 0 → n ≡ 0) → (p : ℕ) → p ≤ k → n + (if m == 0 then p else 0) ≤ k
    or_pad m n k le none p pad = by (m == 0) refl
      where
        by : (b : Bool) → (m == 0) ≡ b → n + (if b then p else 0) ≤ k
        by true is = let nothing : n ≡ 0 = none (eqb-true m 0 is) in omega (arith, nothing, pad)
        by false is = omega (arith, le)

    pad_le : (x y z : Bool) → x ≡ z → (if x && y then 1 else 0) ≤ (if z then 1 else 0)
    pad_le true true z is = rw (← is) (omega arith)
    pad_le true false z is = rw (← is) (omega arith)
    pad_le false y z is = omega arith

    each : (t : Env) → total (λ s. if p (lay B s t) then (if u (lay B s t) && v (lay B s t) then 1 else 0) else 0) (b e) + (if count (λ s. p (lay B s t)) (b e) == 0 then (if u (lay B nulls t) && v (lay B nulls t) then 1 else 0) else 0) ≤ (if u t then 1 else 0)
    each t = or_pad (count (λ s. p (lay B s t)) (b e)) _ (if u t then 1 else 0) (pairs_le u v p B a b ignores reads e one t)
        (λ none. none_pass (λ s. p (lay B s t)) (λ s. if u (lay B s t) && v (lay B s t) then 1 else 0) (b e) none) _ (pad_le (u (lay B nulls t)) (v (lay B nulls t)) (u t) (ignores t nulls))

pub count_bad_left : (bad p : Test) (B : ColumnSet) (a b : Bag) → Ignores B bad → (e : Env) → count bad (a e) ≡ 0 → count bad (left_join p B a b e) ≡ 0
count_bad_left bad p B a b ignores e none =
    total_left (λ w. if bad w then 1 else 0) p B a b e
    ∙ total_none bad _ (λ t good. sum (total-zero _ (λ s. rw (ignores t s ∙ good) (zero (p (lay B s t)))) (b e)) (rw (ignores t nulls ∙ good) (zero (count (λ s. p (lay B s t)) (b e) == 0)))) (a e) none
  where
    zero : (b : Bool) → ◌≡◌ {A = ℕ} (if b then 0 else 0) 0
    zero true = refl
    zero false = refl

    sum : {m n : ℕ} → m ≡ 0 → n ≡ 0 → m + n ≡ 0
    sum g h = omega arith

-- ---- single matches

-- where those that pass with a row agree on a weak key without Null, at most one passes
pub single_from : (K : List ℕ) (p : Test) (B : ColumnSet) (b : Bag) → IsWeakKey K b
    → ((r s t : Env) → p (lay B s r) ≡ true → p (lay B t r) ≡ true → same_on K s t ≡ true) → ((r s : Env) → p (lay B s r) ≡ true → has_null K s ≡ false) → IsSingle p B b
single_from K p B b weak agree full e r = elim (cases_Bool (count (λ s. p (lay B s r)) (b e) == 0)) [
  | inl none ↦ let zero : count (λ s. p (lay B s r)) (b e) ≡ 0 = eqb-true _ _ none in omega (arith, zero)
  | inr some ↦
      let one = found (λ s. p (lay B s r)) (b e) (λ none. absurd (cc (sym some ∙ eq-eqb _ 0 none))) in
      le_trans (count_fewer (λ s. p (lay B s r)) (same_on K one.0) (λ s passes. agree r one.0 s one.1 passes) (b e)) (weak e one.0 (full r one.0 one.1))
]
