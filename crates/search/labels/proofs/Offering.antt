-- Goals of inputs, one by one, and orders that are the same.
use Rattle.std.proofs.Common.{◌≡◌, refl, ap, sym, ◌∙◌, subst, ℕ, zero, suc, ◌+◌, ◌<◌, true, false, not, ◌==◌, List, [], ◌∷◌, ◌++◌, filter, length, drop, get_or, slice_index_or, arith}
use Rattle.std.specs.Coded.{coded_list}
use Rattle.std.specs.List.{list_any}
use Rattle.std.specs.List.Sorted.{IsStrictlyIncreasing}
use Rattle.std.proofs.lemmas.Bool.{eq-eqb}
use Rattle.std.proofs.lemmas.List.{append_assoc}
use Rattle.algebra.specs.Columns.{rising}
use Rattle.algebra.proofs.Same.{tested}
use Rattle.algebra.proofs.Sets.{rising-again}
use Rattle.derivation.specs.Logs.{Log}
use Rattle.physical.specs.declared.plan.OrderKey.{OrderKey}
use Rattle.physical.specs.contracts.plan.OrderKey as order_key
use Rattle.physical.specs.Indexes.{rising_keys}
use Rattle.physical.specs.RequiredOrders.{same_order}
use Rattle.labels.specs.declared.goal.Goal.{Goal}
use Rattle.labels.specs.Offers.{and_others, goal_of, goals_of}

none-left : (i : ℕ) → drop {A = List OrderKey} i [] ≡ []
none-left zero = refl
none-left (suc i) = refl

goals-at : (E : Log) (classes : List ℕ) (orders : List (List OrderKey)) (i d : ℕ) → i < length classes
    → goals_of E (drop i classes) (drop i orders) ≡ goal_of E (get_or classes i d) (slice_index_or orders i []) ∷ goals_of E (drop (suc i) classes) (drop (suc i) orders)
goals-at E [] orders i d lt = absurd (omega (arith, lt))
goals-at E (g ∷ classes) [] zero d lt = refl
goals-at E (g ∷ classes) (order ∷ orders) zero d lt = refl
goals-at E (g ∷ classes) [] (suc i) d lt =
    subst (λ os. goals_of E (drop i classes) os ≡ goal_of E (get_or classes i d) [] ∷ goals_of E (drop (suc i) classes) []) (none-left i) (goals-at E classes [] i d (omega (arith, lt)))
goals-at E (g ∷ classes) (order ∷ orders) (suc i) d lt = goals-at E classes orders i d (omega (arith, lt))

pub goals-more : (E : Log) (classes : List ℕ) (orders : List (List OrderKey)) (i g : ℕ) (order : List OrderKey) (goal : Goal) (old new : List Goal) → i < length classes → g ≡ get_or classes i g
    → order ≡ slice_index_or orders i [] → goal ≡ goal_of E g order → new ≡ old ++ goal ∷ [] → old ++ goals_of E (drop i classes) (drop i orders) ≡ goals_of E classes orders
    → new ++ goals_of E (drop (i + 1) classes) (drop (i + 1) orders) ≡ goals_of E classes orders
goals-more E classes orders i g order goal old new lt at order_at is news so_far =
    let next : suc i ≡ i + 1 = omega arith in
    let rest = goals_of E (drop (i + 1) classes) (drop (i + 1) orders) in
    let here = subst (λ n. goals_of E (drop i classes) (drop i orders) ≡ goal_of E (get_or classes i g) (slice_index_or orders i []) ∷ goals_of E (drop n classes) (drop n orders)) next (goals-at E classes orders i g lt) in
    let first : goal ≡ goal_of E (get_or classes i g) (slice_index_or orders i []) = is ∙ ap (λ k. goal_of E k order) at ∙ ap (goal_of E (get_or classes i g)) order_at in
    ap (λ gs. gs ++ rest) news ∙ append_assoc old (goal ∷ []) rest ∙ ap (λ x. old ++ x ∷ rest) first ∙ ap (λ gs. old ++ gs) (sym here) ∙ so_far

pub other_length : (a b : List OrderKey) (m n : ℕ) → m ≡ length a → n ≡ length b → (m == n) ≡ false → false ≡ same_order a b
unfolding same_order
other_length a b m n is are other = tested (coded_list order_key.the_row.coded) false a b (λ e. cc e, λ e. absurd (different (is ∙ ap length e ∙ sym are)))
  where
    different : m ≡ n → ⊥
    different e = let same : (m == n) ≡ true = eq-eqb m n e in cc

-- a set of columns rises already
pub others_of_set : (order : List OrderKey) (slice columns : List ℕ) (keys : List OrderKey) → slice ≡ columns → IsStrictlyIncreasing slice
    → keys ≡ order ++ rising_keys (filter (λ c. not (list_any (λ k. k.column == c) order)) slice) → keys ≡ and_others order columns
others_of_set order slice columns keys same rises is =
    is ∙ ap (λ cs. order ++ rising_keys (filter (λ c. not (list_any (λ k. k.column == c) order)) cs)) (sym (rising-again slice rises) ∙ ap rising same)
