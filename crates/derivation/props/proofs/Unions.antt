-- A set that is the union of two others.
use Rattle.std.proofs.Common.{◌≡◌, refl, sym, ap, ◌∙◌, ℕ, Bool, true, false, ◌&&◌, ◌||◌, List, [], ◌∷◌, ◌++◌}
use Rattle.std.specs.List.{list_all, list_any}
use Rattle.std.proofs.lemmas.List.Folds.{list_all-append}
use Rattle.algebra.specs.Columns.{has, is_subset, is_same_set}
use Rattle.algebra.proofs.Lists.{two}
use Rattle.algebra.proofs.Puts.{among-append}

pub is_union : (k p q : List ℕ) → is_same_set k (p ++ q) ≡ (list_all (λ c. has p c || has q c) k && (is_subset p k && is_subset q k))
is_union k p q = two (λ a b. a && b) (λ i. list_all (λ c. among-append c p q i) k) (list_all-append (λ c. has k c) p q)

-- a set that isn't within another is no part of it
pub not-part : {X : Type 0} (f : X → List ℕ) (k p : List ℕ) (others : List X) → is_subset p k ≡ false → false ≡ list_any (λ q. is_same_set k (p ++ f q)) others
not-part f k p [] outside = refl
not-part f k p (q ∷ others) outside = two (λ a b. a || b) (sym (none (is_subset k (p ++ f q)) (list_all-append (λ c. has k c) p (f q) ∙ ap (λ b. b && is_subset (f q) k) outside))) (not-part f k p others outside)
  where
    none : (b : Bool) → is_subset (p ++ f q) k ≡ false → (b && is_subset (p ++ f q) k) ≡ false
    none true e = e
    none false e = refl
