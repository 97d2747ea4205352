-- What a stable sort by a closure gives.
use Rattle.std.proofs.Common.{◌≡◌, Bool, List, Bor, ap}
use denote.Param.Members.{Mut}
use Rattle.std.specs.declared.cmp.Ordering.{Ordering}
use Rattle.std.specs.Ordering.{is_lt}
use Rattle.std.specs.Cmp.{IsTotalOrder, IsStrictWeakOrder}
use Rattle.std.specs.Fn.{Called, ComparesAs}
use Rattle.std.specs.List.Sorted.{IsSortedBy, IsStableBy}
use Rattle.std.proofs.lemmas.Fn.{always_returns_same}
use Rattle.std.proofs.lemmas.List.Sorted.{ranks_by}
use Rattle.physical.specs.Sorts.{sorted}
use Rattle.physical.proofs.Sorting.{sorted-unique}

-- a stable sort whose closure answers as a total order does gives the sorted list
pub sorted-by_closure : {X : Type 0} (cmp : X → X → Ordering) → IsTotalOrder cmp → {F : Type 0} {g : Mut F (Bor X × (Bor X × Unit {0})) Ordering} {f : F} (xs ys : List X)
    → ((lt : X → X → Bool) → IsStrictWeakOrder lt → ComparesAs g lt f → IsSortedBy lt ys) → ((lt : X → X → Bool) → IsStrictWeakOrder lt → ComparesAs g lt f → IsStableBy lt xs ys)
    → ((a : Bor X × (Bor X × Unit {0})) (r : Ordering) (f' : F) → Called g f a r f' → (r ≡ cmp a.0.now a.1.0.now) × (f' ≡ f)) → ys ≡ sorted cmp xs
sorted-by_closure {X} cmp total {g = g} {f = f} xs ys up stable answers =
    let lt : X → X → Bool = λ a b. is_lt (cmp a b) in
    let weak : IsStrictWeakOrder lt = ranks_by total (λ a. a) in
    let compares : ComparesAs g lt f = always_returns_same g (λ a r. is_lt r ≡ lt a.0.now a.1.0.now) f (λ a r f' k. (ap is_lt (answers a r f' k).0, (answers a r f' k).1)) in
    sorted-unique cmp total xs ys (up lt weak compares) (stable lt weak compares)
