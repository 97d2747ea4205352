-- The order of values is total, and values that tie in it are equal.
use Rattle.std.proofs.Common.{◌≡◌, refl, ap, Bool, true, false, List, [], ◌∷◌, subst}
use Rattle.std.specs.Cmp.{IsTotalOrder}
use Rattle.std.specs.FinMap.{IsAntisymmetric, int_cmp-IsAntisymmetric, nat_cmp-IsAntisymmetric, slice_cmp-IsAntisymmetric}
use Rattle.std.specs.declared.cmp.Ordering.{Ordering}
use Rattle.std.specs.declared.cmp.Ordering.TheVariants.{Less, Equal, Greater}
use Rattle.std.specs.Ordering.{is_eq, is_gt, is_lt, ordering_reverse, ordering_then}
use Rattle.std.proofs.lemmas.Cmp.{then_total, back_total, tied_itself}
use Rattle.values.specs.declared.value.Value.{Value}
use Rattle.values.specs.declared.value.Value.TheVariants.{Null, Int, Text}
use Rattle.values.specs.Order.{order, directed, by_keys, same}
use Rattle.values.specs.contracts.value.ValueOrd.TheImpl as derived
use Rattle.values.specs.contracts.value.ValueOrd.TheImpl.Laws.{total-law}

-- ---- orderings

pub is_eq-equal : (o : Ordering) → is_eq o ≡ true → o ≡ Equal
is_eq-equal Less h = cc
is_eq-equal Equal h = refl
is_eq-equal Greater h = cc

pub is_gt-reverse : (o : Ordering) → is_gt (ordering_reverse o) ≡ is_lt o
is_gt-reverse Less = refl
is_gt-reverse Equal = refl
is_gt-reverse Greater = refl

pub not_gt-reverse : (o : Ordering) → is_gt o ≡ true → is_gt (ordering_reverse o) ≡ false
not_gt-reverse Less h = cc
not_gt-reverse Equal h = cc
not_gt-reverse Greater h = refl

-- where the first distinguishes them nothing else counts
pub not_gt-then : (o p q : Ordering) → (is_gt p ≡ false → is_gt q ≡ false) → is_gt (ordering_then o p) ≡ false → is_gt (ordering_then o q) ≡ false
not_gt-then Less p q h k = k
not_gt-then Equal p q h k = h k
not_gt-then Greater p q h k = k

-- ---- the order of values

pub order_antisymmetric : IsAntisymmetric order
order_antisymmetric Null Null h = refl
order_antisymmetric Null (Int n) h = cc
order_antisymmetric Null (Text t) h = cc
order_antisymmetric (Int m) Null h = cc
order_antisymmetric (Int m) (Int n) h = ap Int (int_cmp-IsAntisymmetric m n h)
order_antisymmetric (Int m) (Text t) h = cc
order_antisymmetric (Text s) Null h = cc
order_antisymmetric (Text s) (Int n) h = cc
order_antisymmetric (Text s) (Text t) h = ap Text (slice_cmp-IsAntisymmetric nat_cmp-IsAntisymmetric s t h)

order_derived : (a b : Value) → derived.cmp-value.it a b ≡ order a b
order_derived Null Null = refl
order_derived Null (Int n) = refl
order_derived Null (Text t) = refl
order_derived (Int m) Null = refl
order_derived (Int m) (Int n) = refl
order_derived (Int m) (Text t) = refl
order_derived (Text s) Null = refl
order_derived (Text s) (Int n) = refl
order_derived (Text s) (Text t) = refl

pub order_total : IsTotalOrder order
order_total = subst IsTotalOrder (λ i a b. order_derived a b i) total-law

-- in a direction
pub directed_total : (descending : Bool) → IsTotalOrder (directed descending)
directed_total true = back_total order_total
directed_total false = order_total

-- ---- orders by keys

pub by_keys_total : {K X : Type 0} (by_key : K → X → X → Ordering) → ((k : K) → IsTotalOrder (by_key k)) → (keys : List K) → IsTotalOrder (by_keys by_key keys)
by_keys_total by_key each [] = record { antisymm = λ a b. refl; trans = λ a b c h k. h; congr = λ a b c h. refl }
by_keys_total by_key each (k ∷ keys) = then_total (each k) (by_keys_total by_key each keys)

-- ---- the same values

-- the same values are equal
pub same_equal : (v w : Value) → same v w ≡ true → v ≡ w
same_equal v w h = order_antisymmetric v w (is_eq-equal (order v w) h)

pub same_itself : (v : Value) → same v v ≡ true
same_itself v = ap is_eq (tied_itself order_total v)
