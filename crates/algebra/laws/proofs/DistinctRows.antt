-- Rows that stand once already, and the keys of groups.
use Rattle.std.proofs.Common.{◌≡◌, refl, ap, sym, ◌∙◌, ℕ, ◌+◌, ◌≤◌, Bool, true, false, not, if◌then◌else◌, List, [], ◌∷◌, map, filter, arith}
use Rattle.std.proofs.lemmas.Bool.{and_parts, and_from}
use mathlib.Core.List.{map-map}
use Rattle.values.specs.Order.{same}
use Rattle.algebra.specs.Columns.{has, is_subset}
use Rattle.algebra.specs.Bags.{Env, Test, total, lay, same_on, distinct_on}
use Rattle.algebra.proofs.BagSums.{total-map}
use Rattle.algebra.proofs.UniqueRows.{same_on-refl, same_on-reads}
use Rattle.laws.specs.Keys.{count}
use Rattle.laws.specs.Rewriting.{DistinctOfKeyed, GroupsAreDistinct}
use Rattle.laws.proofs.JoinSums.{total_le, total_laid}
use Rattle.laws.proofs.Operators.{distinct_on-laid}
use Rattle.laws.proofs.Overlays.{lay-over}

-- fewer rows pass a stronger test
pub count_fewer : (p q : Test) → ((r : Env) → p r ≡ true → q r ≡ true) → (xs : List Env) → count p xs ≤ count q xs
count_fewer p q stronger xs = total_le _ _ (λ r. at (p r) (q r) (stronger r)) xs
  where
    at : (a b : Bool) → (a ≡ true → b ≡ true) → (if a then 1 else 0) ≤ (if b then 1 else 0)
    at true true h = omega arith
    at true false h = cc (h refl)
    at false true h = omega arith
    at false false h = omega arith

-- rows that agree on more columns agree on fewer
pub agree_within : (K L : List ℕ) → is_subset K L ≡ true → (r s : Env) → same_on L r s ≡ true → same_on K r s ≡ true
agree_within [] L within r s agree = refl
agree_within (k ∷ K) L within r s agree =
    let parts = and_parts (has L k) (is_subset K L) within in
    and_from _ _ (ap (same (r k)) (sym (same_on-reads L r s k agree parts.0)) ∙ (and_parts (same (r k) (r k)) true (same_on-refl (k ∷ []) r)).0) (agree_within K L parts.1 r s agree)

none_pass : (p : Test) (xs : List Env) → count p xs ≡ 0 → filter (λ s. not (p s)) xs ≡ xs
none_pass p [] none = refl
none_pass p (x ∷ xs) none = by (p x) none (none_pass p xs)
  where
    by : (b : Bool) → (if b then 1 else 0) + count p xs ≡ 0 → (count p xs ≡ 0 → filter (λ s. not (p s)) xs ≡ xs) → (if not b then x ∷ filter (λ s. not (p s)) xs else filter (λ s. not (p s)) xs) ≡ x ∷ xs
    by true none later = absurd (omega (arith, none))
    by false none later = ap (λ ys. x ∷ ys) (later (omega (arith, none)))

-- where no two agree, one of each is each
each_once : (L : List ℕ) (xs : List Env) → ((r : Env) → count (same_on L r) xs ≤ 1) → distinct_on L xs ≡ xs
each_once L [] one = refl
each_once L (x ∷ xs) one =
    let here : (if same_on L x x then 1 else 0) + count (same_on L x) xs ≤ 1 = one x in
    let self : ◌≡◌ {A = ℕ} (if same_on L x x then 1 else 0) 1 = ap (λ b. if b then 1 else 0) (same_on-refl L x) in
    let none : count (same_on L x) xs ≡ 0 = omega (arith, here, self) in
    ap (λ ys. x ∷ filter (λ s. not (same_on L x s)) ys) (each_once L xs (λ r. let all : (if same_on L r x then 1 else 0) + count (same_on L r) xs ≤ 1 = one r in omega (arith, all)))
    ∙ ap (λ ys. x ∷ ys) (none_pass (same_on L x) xs none)

pub distinct_of_keyed : DistinctOfKeyed
distinct_of_keyed K L F x fits within strong e f =
    total-map f (λ r. lay (has L) r e) (distinct_on L (x e))
    ∙ ap (total (λ r. f (lay (has L) r e))) (each_once L (x e) (λ r.
    let fewer : count (same_on L r) (x e) ≤ count (same_on K r) (x e) = count_fewer _ _ (agree_within K L within r) (x e) in
    let one : count (same_on K r) (x e) ≤ 1 = strong e r in
    omega (arith, fewer, one)))
    ∙ sym (total_laid (has L) F x fits e f)

pub groups_are_distinct : GroupsAreDistinct
groups_are_distinct k K x e f = ap (total f) (sym (
    ap (map (λ r. lay (has (k ∷ K)) r e)) (distinct_on-laid (k ∷ K) (has (k ∷ K)) e (λ c in_. in_) (x e))
    ∙ map-map (λ r. lay (has (k ∷ K)) r e) (λ r. lay (has (k ∷ K)) r e) (distinct_on (k ∷ K) (x e))
    ∙ (λ i. map (λ r. lay-over (has (k ∷ K)) r e e i) (distinct_on (k ∷ K) (x e)))))
