-- Sets of keys: what is in them, and that keys may come in any order.
use Rattle.std.proofs.Common.{◌≡◌, refl, ap, sym, ◌∙◌, inl, inr, suc, Bool, true, false, not, ◌||◌, ◌==◌, if◌then◌else◌, List, [], ◌∷◌, ◌++◌, length, map, fold, nat_eq, Ordering, Less, Equal, Greater, arith}
use Rattle.std.specs.List.{list_any}
use Rattle.std.specs.Ordering.{nat_cmp, match_ordering, ordering_reverse}
use Rattle.std.specs.Cmp.{IsTotalOrder}
use Rattle.std.specs.Cmp.Lexicographic.{slice_cmp, pointwise}
use Rattle.std.specs.FinMap.{slice_cmp-IsAntisymmetric, nat_cmp-IsAntisymmetric}
use Rattle.std.proofs.lemmas.Cmp.{nat_list_cmp_total, tied_itself}
use Rattle.std.proofs.lemmas.Bool.{or_cases, ne_eqb}
use Rattle.std.proofs.lemmas.List.{length-map, map-append}
use Rattle.std.proofs.lemmas.Slice.Eq.{bytes_eq-Decides}
use Rattle.std.proofs.Math.Bool.{or-false}
use Rattle.indexmap.specs.IndexSet.{insert_key}
use Rattle.algebra.specs.Equality.{same_columns}
use Rattle.algebra.proofs.Same.{equal_columns, same_columns-refl}
use Rattle.algebra.proofs.Sets.{or-turn}
use Rattle.props.specs.Keys.{Key, has_key, with_key, with_keys, in_order}

abbrev order : Key → Key → Ordering
order = slice_cmp nat_cmp

abbrev total : IsTotalOrder order
total = nat_list_cmp_total

-- ---- the order

tied : (k l : Key) → order k l ≡ Equal → k ≡ l
tied k l is = slice_cmp-IsAntisymmetric nat_cmp-IsAntisymmetric k l is

turned : (k l : Key) (o : Ordering) → order k l ≡ o → order l k ≡ ordering_reverse o
turned k l o is = total.antisymm l k ∙ ap ordering_reverse is

-- ---- tests

or-turned : (a b c : Bool) → (a || (b || c)) ≡ ((b || a) || c)
or-turned true true c = refl
or-turned true false c = refl
or-turned false true c = refl
or-turned false false c = refl

twice : (a b : Bool) → (a || b) ≡ (a || (a || b))
twice true b = refl
twice false b = refl

module _ (p : Key → Bool) where
  -- one of the keys with one more passes where that one does, or one of the others
  pub any-with : (k : Key) (keys : List Key) → list_any p (with_key keys k) ≡ (p k || list_any p keys)
  any-with k [] = refl
  any-with k (x ∷ keys) = by (any-with k keys) (order k x) refl
    where
      by : list_any p (with_key keys k) ≡ (p k || list_any p keys) → (o : Ordering) → order k x ≡ o → list_any p (match_ordering o (k ∷ x ∷ keys) (x ∷ keys) (x ∷ with_key keys k)) ≡ (p k || (p x || list_any p keys))
      by rest Less is = refl
      by rest Equal is = ap (λ z. p z || list_any p keys) (sym (tied k x is)) ∙ twice (p k) (list_any p keys) ∙ ap (λ z. p k || (p z || list_any p keys)) (tied k x is)
      by rest Greater is = ap (λ b. p x || b) rest ∙ or-turn (p x) (p k) (list_any p keys)

  any-withs : (keys others : List Key) → list_any p (with_keys keys others) ≡ (list_any p others || list_any p keys)
  any-withs keys [] = refl
  any-withs keys (l ∷ others) = any-withs (with_key keys l) others ∙ ap (λ b. list_any p others || b) (any-with l keys) ∙ or-turned (list_any p others) (p l) (list_any p keys)

  pub any-in-order : (keys : List Key) → list_any p (in_order keys) ≡ list_any p keys
  any-in-order keys = any-withs [] keys ∙ or-false (list_any p keys)

-- the keys with one more are they and that one
pub has-with : (k l : Key) (keys : List Key) → has_key (with_key keys k) l ≡ (same_columns k l || has_key keys l)
has-with k l keys = any-with (λ m. same_columns m l) k keys

-- ---- in any order

module _ (k l : Key) where
  -- two keys of which the first goes before the second
  swapped-less : order k l ≡ Less → (keys : List Key) → with_key (with_key keys k) l ≡ with_key (with_key keys l) k
  swapped-less lt [] = let back : order l k ≡ Greater = turned k l Less lt in rw (back, lt) refl
  swapped-less lt (x ∷ keys) = by (swapped-less lt keys) (order k x) (order l x) refl refl
    where
      back : order l k ≡ Greater
      back = turned k l Less lt

      by : with_key (with_key keys k) l ≡ with_key (with_key keys l) k → (o p : Ordering) → order k x ≡ o → order l x ≡ p
          → with_key (match_ordering o (k ∷ x ∷ keys) (x ∷ keys) (x ∷ with_key keys k)) l ≡ with_key (match_ordering p (l ∷ x ∷ keys) (x ∷ keys) (x ∷ with_key keys l)) k
      by rest Less Less first second = rw (back, second, lt) refl
      by rest Less Equal first second = rw (back, second, first) refl
      by rest Less Greater first second = rw (back, second, first) refl
      by rest Equal Less first second = absurd (let never : Less ≡ Equal = sym (total.trans k l x lt second) ∙ first in cc)
      by rest Equal Equal first second = absurd (let never : Less ≡ Equal = sym lt ∙ ap (λ z. order z l) (tied k x first) ∙ ap (order x) (tied l x second) ∙ tied_itself total x in cc)
      by rest Equal Greater first second = rw (second, first) refl
      by rest Greater Less first second = absurd (let never : Less ≡ Greater = sym (total.trans k l x lt second) ∙ first in cc)
      by rest Greater Equal first second = absurd (let never : Less ≡ Greater = sym lt ∙ ap (order k) (tied l x second) ∙ first in cc)
      by rest Greater Greater first second = rw (second, first) (ap (λ m. x ∷ m) rest)

swapped : (k l : Key) (keys : List Key) → with_key (with_key keys k) l ≡ with_key (with_key keys l) k
swapped k l keys = by (order k l) refl
  where
    by : (o : Ordering) → order k l ≡ o → with_key (with_key keys k) l ≡ with_key (with_key keys l) k
    by Less is = swapped-less k l is keys
    by Equal is = let same : k ≡ l = tied k l is in rw same refl
    by Greater is = sym (swapped-less l k (turned k l Greater is) keys)

with-twice : (k : Key) (keys : List Key) → with_key (with_key keys k) k ≡ with_key keys k
with-twice k [] = rw (tied_itself total k) refl
with-twice k (x ∷ keys) = by (with-twice k keys) (order k x) refl
  where
    by : with_key (with_key keys k) k ≡ with_key keys k → (o : Ordering) → order k x ≡ o → with_key (match_ordering o (k ∷ x ∷ keys) (x ∷ keys) (x ∷ with_key keys k)) k ≡ match_ordering o (k ∷ x ∷ keys) (x ∷ keys) (x ∷ with_key keys k)
    by rest Less is = rw (tied_itself total k) refl
    by rest Equal is = rw is refl
    by rest Greater is = rw is (ap (λ m. x ∷ m) rest)

-- one more of the first keys
pub with-more : (keys others : List Key) (k : Key) → with_keys (with_key keys k) others ≡ with_key (with_keys keys others) k
with-more keys [] k = refl
with-more keys (l ∷ others) k = ap (λ m. with_keys m others) (swapped k l keys) ∙ with-more (with_key keys l) others k

-- one more of the others
pub with-other : (keys others : List Key) (k : Key) → with_keys keys (with_key others k) ≡ with_key (with_keys keys others) k
with-other keys [] k = refl
with-other keys (x ∷ others) k = by (with-other (with_key keys x) others k) (order k x) refl
  where
    by : with_keys (with_key keys x) (with_key others k) ≡ with_key (with_keys (with_key keys x) others) k → (o : Ordering) → order k x ≡ o
        → with_keys keys (match_ordering o (k ∷ x ∷ others) (x ∷ others) (x ∷ with_key others k)) ≡ with_key (with_keys (with_key keys x) others) k
    by rest Less is = with-more keys (x ∷ others) k
    by rest Equal is = ap (λ m. with_keys m others) (sym (with-twice x keys)) ∙ with-more (with_key keys x) others x ∙ ap (with_key (with_keys (with_key keys x) others)) (sym (tied k x is))
    by rest Greater is = rest

-- ---- as they came

came-last : (keys others : List Key) (k : Key) → with_keys keys (others ++ k ∷ []) ≡ with_key (with_keys keys others) k
came-last keys [] k = refl
came-last keys (x ∷ others) k = came-last (with_key keys x) others k

-- a key that came already
came-already : (keys others : List Key) (k : Key) → has_key others k ≡ true → with_key (with_keys keys others) k ≡ with_keys keys others
came-already keys [] k is = cc
came-already keys (x ∷ others) k is = elim (or_cases (same_columns x k) (has_key others k) is) [
  | inl here ↦
      let same : k ≡ x = sym (equal_columns x k here) in
      sym (with-more (with_key keys x) others k) ∙ ap (λ m. with_keys m others) (ap (with_key (with_key keys x)) same ∙ with-twice x keys)
  | inr more ↦ came-already (with_key keys x) others k more
]

pub known-already : (keys : List Key) (k : Key) → has_key (in_order keys) k ≡ true → with_key (in_order keys) k ≡ in_order keys
known-already keys k is = came-already [] keys k (sym (any-in-order (λ l. same_columns l k) keys) ∙ is)

-- keys that came as those of two sets
both-sets : (keys others more : List Key) → with_keys keys (with_keys others more) ≡ with_keys (with_keys keys others) more
both-sets keys others [] = refl
both-sets keys others (x ∷ more) = both-sets keys (with_key others x) more ∙ ap (λ m. with_keys m more) (with-other keys others x)

-- keys in order stay so
pub in-order-again : (keys : List Key) → in_order keys ≡ in_order (in_order keys)
in-order-again keys = sym (both-sets [] [] keys)

-- a set that has a key isn't empty
some-key : (keys : List Key) → (length keys == 0) ≡ not (list_any (λ k. true) keys)
some-key [] = refl
some-key (k ∷ keys) = ne_eqb (suc (length keys)) 0 (λ e. absurd (omega (arith, e)))

pub none-in-order : (keys : List Key) → (length (in_order keys) == 0) ≡ (length keys == 0)
none-in-order keys = some-key (in_order keys) ∙ ap not (any-in-order (λ k. true) keys) ∙ sym (some-key keys)

-- ---- a set of things that stand for keys

pub same-items : (k l : Key) → pointwise nat_eq k l ≡ same_columns l k
same-items k l = by (pointwise nat_eq k l) (same_columns l k) refl refl
  where
    by : (a b : Bool) → pointwise nat_eq k l ≡ a → same_columns l k ≡ b → a ≡ b
    by true true first second = refl
    by false false first second = refl
    by true false first second = sym (same_columns-refl l) ∙ ap (same_columns l) (sym ((bytes_eq-Decides k l).0 first)) ∙ second
    by false true first second = sym first ∙ (bytes_eq-Decides k l).1 (sym (equal_columns l k second))

module _ {X : Type 0} (f : X → Key) (eq : X → X → Bool) (is : (x y : X) → eq x y ≡ same_columns (f y) (f x)) where
  among : (xs : List X) (x : X) → list_any (eq x) xs ≡ has_key (map f xs) (f x)
  among [] x = refl
  among (y ∷ xs) x = ap (λ b. b || list_any (eq x) xs) (is x y) ∙ ap (λ b. same_columns (f y) (f x) || b) (among xs x)

  pub inserted : (xs : List X) (x : X) → in_order (map f (insert_key eq xs x)) ≡ with_key (in_order (map f xs)) (f x)
  inserted xs x = by (list_any (eq x) xs) refl
    where
      by : (b : Bool) → list_any (eq x) xs ≡ b → in_order (map f (if b then xs else xs ++ x ∷ [])) ≡ with_key (in_order (map f xs)) (f x)
      by true there = sym (came-already [] (map f xs) (f x) (sym (among xs x) ∙ there))
      by false new = ap in_order (map-append f xs (x ∷ [])) ∙ came-last [] (map f xs) (f x)

  each-inserted : (xs ys : List X) → in_order (map f (fold (insert_key eq) xs ys)) ≡ with_keys (in_order (map f xs)) (map f ys)
  each-inserted xs [] = refl
  each-inserted xs (y ∷ ys) = each-inserted (insert_key eq xs y) ys ∙ ap (λ m. with_keys m (map f ys)) (inserted xs y)

  pub all-inserted : (xs ys : List X) → in_order (map f (fold (insert_key eq) xs ys)) ≡ with_keys (in_order (map f xs)) (in_order (map f ys))
  all-inserted xs ys = each-inserted xs ys ∙ sym (both-sets (in_order (map f xs)) [] (map f ys))

  -- one of them passes where one of the keys in order does
  pub any-came : (p : Key → Bool) (xs : List X) → list_any (λ x. p (f x)) xs ≡ list_any p (in_order (map f xs))
  any-came p xs = each xs ∙ sym (any-in-order p (map f xs))
    where
      each : (xs : List X) → list_any (λ x. p (f x)) xs ≡ list_any p (map f xs)
      each [] = refl
      each (x ∷ xs) = ap (λ b. p (f x) || b) (each xs)

  pub none-came : (xs : List X) → (length xs == 0) ≡ (length (in_order (map f xs)) == 0)
  none-came xs = ap (λ n. n == 0) (sym (length-map xs f)) ∙ sym (none-in-order (map f xs))
