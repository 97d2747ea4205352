-- A condition put in order, by the place at which the search for its own ends.
use Rattle.std.proofs.Common.{◌≡◌, refl, ap, sym, ◌∙◌, ℕ, zero, suc, ◌+◌, ◌≤◌, nat_lt, Bool, true, false, ◌||◌, not, if◌then◌else◌, List, [], ◌∷◌, length, position, unwrap_or, Some, None, arith}
use Rattle.std.proofs.lemmas.Bool.{cond_both, ltb-false}
use Rattle.std.proofs.lemmas.List.Sums.{prefix_len-le-length}
use Rattle.std.specs.List.{slice_get, insert, position_or_len}
use Rattle.algebra.specs.declared.condition.Condition.{Condition}
use Rattle.algebra.specs.ConditionEquality.{same_condition}
use Rattle.algebra.specs.ConjunctOrder.{goes_before, ends_search, put_in_order}

there-step : (s b : Bool) (c d e : Condition) (ds rest : List Condition) (n m : ℕ) → m ≡ suc n → s ≡ same_condition c d → slice_get (d ∷ ds) (if not (s || b) then m else zero) ≡ Some e → same_condition c e ≡ true
    → (slice_get ds n ≡ Some e → rest ≡ ds) → (if s then d ∷ ds else if b then c ∷ d ∷ ds else d ∷ rest) ≡ d ∷ ds
there-step true b c d e ds rest n m up is at same later = refl
there-step false true c d e ds rest n m up is at same later = let first : d ≡ e = cc in let never : false ≡ true = is ∙ ap (same_condition c) first ∙ same in cc
there-step false false c d e ds rest n m up is at same later = ap (λ r. d ∷ r) (later (sym (ap (slice_get (d ∷ ds)) up) ∙ at))

-- a condition that is there changes nothing
pub put-there : (c e : Condition) (ds : List Condition) → slice_get ds (position_or_len (ends_search c) ds) ≡ Some e → same_condition c e ≡ true → put_in_order c ds ≡ ds
put-there c e [] at same = cc
put-there c e (d ∷ ds) at same = there-step (same_condition c d) (goes_before c d) c d e ds (put_in_order c ds) (position_or_len (ends_search c) ds) (1 + position_or_len (ends_search c) ds) (omega arith) refl at same (λ later. put-there c e ds later same)

new-step : (s b : Bool) (c d : Condition) (ds rest : List Condition) (n m : ℕ) → m ≡ suc n → s ≡ same_condition c d → ((e : Condition) → slice_get (d ∷ ds) (if not (s || b) then m else zero) ≡ Some e → same_condition c e ≡ false)
    → (((e : Condition) → slice_get ds n ≡ Some e → same_condition c e ≡ false) → rest ≡ insert ds n c)
    → (if s then d ∷ ds else if b then c ∷ d ∷ ds else d ∷ rest) ≡ insert (d ∷ ds) (if not (s || b) then m else zero) c
new-step true b c d ds rest n m up is other later = let never : true ≡ false = is ∙ other d refl in cc
new-step false true c d ds rest n m up is other later = refl
new-step false false c d ds rest n m up is other later = ap (λ r. d ∷ r) (later (λ e at. other e (ap (slice_get (d ∷ ds)) up ∙ at))) ∙ ap (λ k. insert (d ∷ ds) k c) (sym up)

-- one that isn't goes to that place
pub put-new : (c : Condition) (ds : List Condition) → ((e : Condition) → slice_get ds (position_or_len (ends_search c) ds) ≡ Some e → same_condition c e ≡ false)
    → put_in_order c ds ≡ insert ds (position_or_len (ends_search c) ds) c
put-new c [] other = refl
put-new c (d ∷ ds) other = new-step (same_condition c d) (goes_before c d) c d ds (put_in_order c ds) (position_or_len (ends_search c) ds) (1 + position_or_len (ends_search c) ds) (omega arith) refl other (put-new c ds)

pub place-or-len : {X : Type 0} (p : X → Bool) (xs : List X) → unwrap_or (position p xs) (length xs) ≡ position_or_len p xs
place-or-len p xs =
    cond_both (nat_lt (position_or_len p xs) (length xs)) (Some (position_or_len p xs)) None (λ o. unwrap_or o (length xs) ≡ position_or_len p xs) (λ is. refl)
    (λ isnt. let within : position_or_len p xs ≤ length xs = prefix_len-le-length (λ x. not (p x)) xs in let past : length xs ≤ position_or_len p xs = ltb-false _ _ isnt in omega (arith, within, past))
