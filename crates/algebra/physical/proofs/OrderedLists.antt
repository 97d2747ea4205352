-- What keeps lists in order.
use Rattle.std.proofs.Common.{◌≡◌, ap, ◌∙◌, ℕ, Bool, true, false, not, if◌then◌else◌, List, [], ◌∷◌, ◌++◌, map, filter, flat_map}
use Rattle.std.specs.declared.cmp.Ordering.{Ordering}
use Rattle.std.specs.Ordering.{is_gt}
use Rattle.std.specs.Cmp.{IsTotalOrder}
use Rattle.std.specs.List.{AllByRecursion}
use Rattle.std.proofs.lemmas.Cmp.{tied_itself}
use Rattle.values.proofs.Lists.{all_append, all_weaker}
use Rattle.algebra.specs.Bags.{Env, same_on, distinct_on}
use Rattle.values.proofs.Each.{all_filter}
use Rattle.algebra.proofs.Lists.{all-map, all-each}
use Rattle.physical.proofs.Sorting.{Precedes, Ascends}

-- an order that distinguishes no elements
pub ascends-any : {X : Type 0} (cmp : X → X → Ordering) → ((x y : X) → is_gt (cmp x y) ≡ false) → (xs : List X) → Ascends cmp xs
ascends-any cmp h [] = tt
ascends-any cmp h (x ∷ xs) = (all-each _ (h x) xs, ascends-any cmp h xs)

-- the elements mapped, by an order in which they go as they did
pub ascends-map : {X Y : Type 0} (cmp : X → X → Ordering) (by : Y → Y → Ordering) (g : X → Y) → ((x y : X) → is_gt (cmp x y) ≡ false → is_gt (by (g x) (g y)) ≡ false)
    → (xs : List X) → Ascends cmp xs → Ascends by (map g xs)
ascends-map cmp by g h [] up = tt
ascends-map cmp by g h (x ∷ xs) up = (all-map _ _ g xs (λ y k. h x y k) up.0, ascends-map cmp by g h xs up.1)

-- an order that distinguishes fewer elements
pub ascends-weaker : {X : Type 0} (cmp by : X → X → Ordering) → ((x y : X) → is_gt (cmp x y) ≡ false → is_gt (by x y) ≡ false) → (xs : List X) → Ascends cmp xs → Ascends by xs
ascends-weaker cmp by h [] up = tt
ascends-weaker cmp by h (x ∷ xs) up = (all_weaker _ _ (λ y k. h x y k) xs up.0, ascends-weaker cmp by h xs up.1)

pub ascends-filter : {X : Type 0} (cmp : X → X → Ordering) (p : X → Bool) (xs : List X) → Ascends cmp xs → Ascends cmp (filter p xs)
ascends-filter cmp p [] up = tt
ascends-filter cmp p (x ∷ xs) up = by (p x) (all_filter _ p xs up.0) (ascends-filter cmp p xs up.1)
  where
    by : (b : Bool) → Precedes cmp x (filter p xs) → Ascends cmp (filter p xs) → Ascends cmp (if b then x ∷ filter p xs else filter p xs)
    by true low rest = (low, rest)
    by false low rest = rest

all-distinct_on : (P : Env → Type 0) (K : List ℕ) (rows : List Env) → AllByRecursion P rows → AllByRecursion P (distinct_on K rows)
all-distinct_on P K [] all = tt
all-distinct_on P K (r ∷ rows) all = (all.0, all_filter P (λ s. not (same_on K r s)) (distinct_on K rows) (all-distinct_on P K rows all.1))

pub ascends-distinct_on : (cmp : Env → Env → Ordering) (K : List ℕ) (rows : List Env) → Ascends cmp rows → Ascends cmp (distinct_on K rows)
ascends-distinct_on cmp K [] up = tt
ascends-distinct_on cmp K (r ∷ rows) up =
    (all_filter _ (λ s. not (same_on K r s)) (distinct_on K rows) (all-distinct_on _ K rows up.0), ascends-filter cmp (λ s. not (same_on K r s)) (distinct_on K rows) (ascends-distinct_on cmp K rows up.1))

-- ---- lists of lists

ascends-append : {X : Type 0} (cmp : X → X → Ordering) (xs ys : List X) → Ascends cmp xs → AllByRecursion (λ x. Precedes cmp x ys) xs → Ascends cmp ys → Ascends cmp (xs ++ ys)
ascends-append cmp [] ys up low rest = rest
ascends-append cmp (x ∷ xs) ys up low rest = (all_append _ xs ys up.0 low.0, ascends-append cmp xs ys up.1 low.1 rest)

-- the order doesn't distinguish the elements
pub record Alike {X : Type 0} (cmp : X → X → Ordering) (x y : X) : Type 0 where
  pub before : (z : X) → cmp x z ≡ cmp y z
  pub behind : (z : X) → cmp z x ≡ cmp z y

module _ {X : Type 0} (cmp : X → X → Ordering) (total : IsTotalOrder cmp) (g : X → List X) (alike : (x : X) → AllByRecursion (λ t. Alike cmp t x) (g x)) where
  -- elements that are alike are in order
  ascends-alike : (x : X) (ts : List X) → AllByRecursion (λ t. Alike cmp t x) ts → Ascends cmp ts
  ascends-alike x [] all = tt
  ascends-alike x (t ∷ ts) all = (all_weaker _ _ (λ u k. ap is_gt (all.0.before u ∙ k.behind x ∙ tied_itself total x)) ts all.1, ascends-alike x ts all.1)

  precedes-laid_out : (x : X) (ys : List X) → Precedes cmp x ys → Precedes cmp x (flat_map g ys)
  precedes-laid_out x [] low = tt
  precedes-laid_out x (y ∷ ys) low = all_append _ (g y) (flat_map g ys) (all_weaker _ _ (λ t k. ap is_gt (k.behind x) ∙ low.0) (g y) (alike y)) (precedes-laid_out x ys low.1)

  -- each element replaced by elements that are like it
  pub ascends-laid_out : (xs : List X) → Ascends cmp xs → Ascends cmp (flat_map g xs)
  ascends-laid_out [] up = tt
  ascends-laid_out (x ∷ xs) up =
      let low : Precedes cmp x (flat_map g xs) = precedes-laid_out x xs up.0 in
      ascends-append cmp (g x) (flat_map g xs) (ascends-alike x (g x) (alike x))
      (all_weaker _ _ (λ t k. all_weaker _ _ (λ u below. ap is_gt (k.before u) ∙ below) (flat_map g xs) low) (g x) (alike x))
      (ascends-laid_out xs up.1)
