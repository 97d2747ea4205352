-- ORDER BY: its order is total, a sorted list is one that it allows, and a sort keeps how often each row stands.
use Rattle.std.proofs.Common.{◌≡◌, refl, suc, ◌+◌, Bool, if◌then◌else◌, List, [], ◌∷◌, Bor, ap, sym, ◌∙◌, arith}
use denote.Param.Members.{Mut}
use Rattle.std.specs.declared.cmp.Ordering.{Ordering}
use Rattle.std.specs.Ordering.{is_lt, is_gt}
use Rattle.std.specs.Cmp.{IsTotalOrder, IsStrictWeakOrder}
use Rattle.std.specs.Fn.{Called, ComparesAs}
use Rattle.std.specs.List.{sum_by}
use Rattle.std.specs.List.Sorted.{IsSortedBy, IsPermutation}
use Rattle.std.proofs.lemmas.Cmp.{on_total}
use Rattle.std.proofs.lemmas.Fn.{always_returns_same}
use Rattle.std.proofs.lemmas.List.Sorted.{ranks_by, sum_by-IsPermutation}
use Rattle.std.proofs.lemmas.List.Sums.{sum_by-cons}
use Rattle.values.proofs.Orders.{directed_total, by_keys_total, is_gt-reverse}
use Rattle.schema.specs.Databases.{Row}
use Rattle.query.specs.declared.query.SortKey.{SortKey}
use Rattle.query.specs.Rows.{value_at, same_rows, count}
use Rattle.query.specs.Answer.{key_order, keys_order, IsAllowed}

-- ---- the order of ORDER BY

pub keys_total : (keys : List SortKey) → IsTotalOrder (keys_order keys)
keys_total = by_keys_total key_order (λ k. on_total (value_at k.item) (directed_total k.descending))

-- ---- a sort by a closure

-- a sort whose closure answers as a total order does sorts by it
pub sorted_by : {X : Type 0} (R : X → X → Ordering) → IsTotalOrder R → {F : Type 0} {g : Mut F (Bor X × (Bor X × Unit {0})) Ordering} {f : F} (xs : List X)
    → ((lt : X → X → Bool) → IsStrictWeakOrder lt → ComparesAs g lt f → IsSortedBy lt xs)
    → ((a : Bor X × (Bor X × Unit {0})) (r : Ordering) (f' : F) → Called g f a r f' → (r ≡ R a.0.now a.1.0.now) × (f' ≡ f)) → IsSortedBy (λ a b. is_lt (R a b)) xs
sorted_by R o {g = g} {f = f} xs up h = up (λ a b. is_lt (R a b)) (ranks_by o (λ a. a))
    (always_returns_same g (λ a r. is_lt r ≡ is_lt (R a.0.now a.1.0.now)) f (λ a r f' k. (ap is_lt (h a r f' k).0, (h a r f' k).1)))

-- ---- what it gives

pub allowed : (keys : List SortKey) (rows : List Row) → IsSortedBy (λ a b. is_lt (keys_order keys a b)) rows → IsAllowed keys rows
allowed keys [] up = tt
allowed keys (a ∷ []) up = tt
allowed keys (a ∷ b ∷ rows) up =
    (ap is_gt ((keys_total keys).antisymm a b) ∙ is_gt-reverse (keys_order keys b a) ∙ up 0 [] (omega arith) (omega arith), allowed keys (b ∷ rows) later)
  where
    later : IsSortedBy (λ a b. is_lt (keys_order keys a b)) (b ∷ rows)
    later k d low high = let e : suc k + 1 ≡ suc (k + 1) = omega arith in let h = up (suc k) d (omega arith) (omega arith) in rw e at h

count-sum : (r : Row) (rows : List Row) → count r rows ≡ sum_by (λ s. if same_rows r s then 1 else 0) rows
count-sum r [] = refl
count-sum r (s ∷ rows) = ap (λ n. (if same_rows r s then 1 else 0) + n) (count-sum r rows) ∙ sym (sum_by-cons _ s rows)

pub count-sorted : (r : Row) (before after : List Row) → IsPermutation before after → count r after ≡ count r before
count-sorted r before after moved = count-sum r after ∙ sum_by-IsPermutation (λ s. if same_rows r s then 1 else 0) before after moved ∙ sym (count-sum r before)
