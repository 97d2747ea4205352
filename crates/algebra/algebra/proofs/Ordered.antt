-- Conjuncts in order hold where they all do.
use Rattle.std.proofs.Common.{◌≡◌, refl, ap, sym, ◌∙◌, Bool, true, false, ◌&&◌, List, [], ◌∷◌}
use Rattle.std.specs.List.{list_all}
use Rattle.std.proofs.lemmas.Bool.{cond_both}
use Rattle.algebra.specs.declared.condition.Condition.{Condition}
use Rattle.algebra.specs.ConditionEquality.{same_condition}
use Rattle.algebra.specs.ConjunctOrder.{goes_before, put_in_order, in_order}
use Rattle.algebra.proofs.Same.{equal_condition}

pub and-twice : (a b : Bool) → (a && b) ≡ (a && (a && b))
and-twice true b = refl
and-twice false b = refl

pub and-turn : (a b c : Bool) → (a && (b && c)) ≡ (b && (a && c))
and-turn true true c = refl
and-turn true false c = refl
and-turn false true c = refl
and-turn false false c = refl

put-all : (p : Condition → Bool) (c : Condition) (ds : List Condition) → list_all p (put_in_order c ds) ≡ (p c && list_all p ds)
put-all p c [] = refl
put-all p c (d ∷ ds) =
    let P : List Condition → Type 0 = λ cs. list_all p cs ≡ (p c && (p d && list_all p ds)) in
    cond_both (same_condition c d) _ _ P
    (λ is. and-twice (p d) (list_all p ds) ∙ ap (λ z. p z && (p d && list_all p ds)) (sym (equal_condition c d is)))
    (λ isnt. cond_both (goes_before c d) _ _ P (λ before. refl) (λ after. ap (λ b. p d && b) (put-all p c ds) ∙ and-turn (p d) (p c) (list_all p ds)))

pub in_order-all : (p : Condition → Bool) (cs : List Condition) → list_all p (in_order cs) ≡ list_all p cs
in_order-all p [] = refl
in_order-all p (c ∷ cs) = put-all p c (in_order cs) ∙ ap (λ b. p c && b) (in_order-all p cs)
