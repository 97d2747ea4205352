-- Whether a plan is offered, by its root's node and its inputs.
use Rattle.std.proofs.Common.{◌≡◌, refl, ap, ◌∙◌, ℕ, zero, suc, ◌<◌, ◌≤◌, Bool, true, false, ◌&&◌, List, [], ◌∷◌, length, drop, map, get_or, arith}
use Rattle.query.specs.declared.query.TableInstance.{TableInstance}
use Rattle.derivation.specs.Logs.{Log}
use Rattle.physical.specs.declared.plan.Plan.{Plan, out-Plan, fold_out-Plan}
use Rattle.labels.specs.declared.goal.Goal.{Goal}
use Rattle.labels.specs.Offers.{input_goals}
use Rattle.labels.specs.Plans.{are_for, are_for_some, is_offered, offered_layer}

module _ (instances : List TableInstance) (E : Log) (cols : ℕ → List ℕ) where
  pub offered_out : (p : Plan) (goal : Goal) → is_offered instances E cols p goal ≡ are_for_some (map (is_offered instances E cols) (out-Plan p).inputs) (input_goals instances E cols goal (out-Plan p).node)
  unfolding is_offered
  offered_out p goal = ap (λ f. f goal) (fold_out-Plan (Goal → Bool) (offered_layer instances E cols) p)

-- ---- inputs for goals, one by one

pub other-count : (fs : List (Goal → Bool)) (goals : List Goal) → (length fs ≡ length goals → ⊥) → are_for fs goals ≡ false
other-count [] [] other = absurd (other refl)
other-count [] (goal ∷ goals) other = refl
other-count (f ∷ fs) [] other = refl
other-count (f ∷ fs) (goal ∷ goals) other = ap (λ b. f goal && b) (other-count fs goals (λ e. other (ap suc e))) ∙ and-false (f goal)
  where
    and-false : (b : Bool) → (b && false) ≡ false
    and-false true = refl
    and-false false = refl

-- from a place on
pub next-for : (of : Plan → Goal → Bool) (plans : List Plan) (goals : List Goal) (i : ℕ) (d : Plan) (e : Goal) → i < length plans → length plans ≡ length goals
    → are_for (map of (drop i plans)) (drop i goals) ≡ (of (get_or plans i d) (get_or goals i e) && are_for (map of (drop (suc i) plans)) (drop (suc i) goals))
next-for of [] goals i d e lt same = absurd (omega (arith, lt))
next-for of (p ∷ plans) [] i d e lt same = absurd (omega (arith, same))
next-for of (p ∷ plans) (goal ∷ goals) zero d e lt same = refl
next-for of (p ∷ plans) (goal ∷ goals) (suc i) d e lt same = next-for of plans goals i d e (omega (arith, lt)) (omega (arith, same))

pub none-left : (of : Plan → Goal → Bool) (plans : List Plan) (goals : List Goal) (i : ℕ) → length plans ≤ i → length plans ≡ length goals → are_for (map of (drop i plans)) (drop i goals) ≡ true
none-left of [] [] i le same = ap (λ x. are_for (map of x) (drop i [])) (nil-left i) ∙ ap (are_for []) (nil-left i)
  where
    nil-left : {X : Type 0} (i : ℕ) → drop {A = X} i [] ≡ []
    nil-left zero = refl
    nil-left (suc i) = refl
none-left of [] (goal ∷ goals) i le same = absurd (omega (arith, same))
none-left of (p ∷ plans) [] i le same = absurd (omega (arith, same))
none-left of (p ∷ plans) (goal ∷ goals) zero le same = absurd (omega (arith, le))
none-left of (p ∷ plans) (goal ∷ goals) (suc i) le same = none-left of plans goals i (omega (arith, le)) (omega (arith, same))
