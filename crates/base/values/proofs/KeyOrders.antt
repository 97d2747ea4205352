-- The order of two elements by several keys is the first that a key decides.
use Rattle.std.proofs.Common.{◌≡◌, ◌≢◌, refl, ap, ◌∙◌, sym, ℕ, ◌+◌, ◌<◌, List, [], ◌∷◌, length, get_or, drop}
use Rattle.std.specs.Ordering.{ordering_then}
use Rattle.std.specs.declared.cmp.Ordering.{Ordering}
use Rattle.std.specs.declared.cmp.Ordering.TheVariants.{Less, Equal, Greater}
use Rattle.values.specs.Keys.{first_decided}
use Rattle.values.specs.Order.{by_keys}
use Rattle.values.proofs.Lists.{drop_next}

pub by_keys-decided : {K X : Type 0} (by_key : K → X → X → Ordering) (keys : List K) (x y : X) → first_decided (λ k. by_key k x y) keys ≡ by_keys by_key keys x y
by_keys-decided by_key [] x y = refl
by_keys-decided by_key (k ∷ keys) x y = ap (ordering_then (by_key k x y)) (by_keys-decided by_key keys x y)

-- ---- the key that a loop has come to

at-key : {K : Type 0} (order : K → Ordering) (keys : List K) (i : ℕ) (k : K) (o : Ordering) → i < length keys → k ≡ get_or keys i k → o ≡ order k
    → first_decided order (drop i keys) ≡ ordering_then o (first_decided order (drop (i + 1) keys))
at-key order keys i k o below at is = ap (first_decided order) (drop_next keys i k below at) ∙ ap (λ p. ordering_then p (first_decided order (drop (i + 1) keys))) (sym is)

decides : (o p : Ordering) → o ≢ Equal → o ≡ ordering_then o p
decides Less p other = refl
decides Equal p other = absurd (other refl)
decides Greater p other = refl

pub key-decides : {K : Type 0} (order : K → Ordering) (keys : List K) (i : ℕ) (k : K) (o : Ordering) → i < length keys → k ≡ get_or keys i k → o ≡ order k → o ≢ Equal → o ≡ first_decided order (drop i keys)
key-decides order keys i k o below at is other = decides o (first_decided order (drop (i + 1) keys)) other ∙ sym (at-key order keys i k o below at is)

pub key-passes : {K : Type 0} (order : K → Ordering) (keys : List K) (i : ℕ) (k : K) (o : Ordering) → i < length keys → k ≡ get_or keys i k → o ≡ order k → o ≡ Equal → first_decided order (drop i keys) ≡ first_decided order (drop (i + 1) keys)
key-passes order keys i k o below at is tie = at-key order keys i k o below at is ∙ ap (λ p. ordering_then p (first_decided order (drop (i + 1) keys))) tie
