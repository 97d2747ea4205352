use Rattle.std.proofs.Common.{◌≡◌, refl, sym, ◌∙◌, subst, inl, rules, ℕ, List, [], ◌∷◌, ◌++◌, length, set, Some}
use Rattle.winners.specs.declared.found.FoundPlan.{FoundPlan}
use Rattle.winners.specs.Found.{AreChosen, AreEstimated, AreFound, cheapest_of}
use Rattle.winners.proofs.Finding.{found_more, settled_by}
use Rattle.winners.proofs.found.try_offer.Goals as goal

pub returns-then-found-estimate-clause-tried : goal.returns-then-found-estimate-clause-tried
returns-then-found-estimate-clause-tried c =
    let cheapest = c.args.cheapest.now in
    let o = c.args.offer.now in
    let estimated : AreEstimated cheapest o.inputs c.in-Some.inputs = subst (λ v. AreEstimated cheapest v c.in-Some.inputs) c.as_slice.ensures c.in-Some.ensures.some in
    let at : cheapest_of cheapest o.goal ≡ Some c.in-Some-cheapest_of.found = sym c.cheapest_of.ensures ∙ c.in-Some-cheapest_of.is in
    record {
      as_many = refl;
      outcome = inl (refl, refl, settled_by c.args.space cheapest o c.in-Some.inputs c.offer_estimate-estimate.result c.in-Some-cheapest_of.found estimated c.offer_estimate-estimate.ensures at c.if-found-estimate.true);
    }

pub returns-clause-found : goal.returns-clause-found
returns-clause-found c =
    let cheapest = c.args.cheapest.now in
    let o = c.args.offer.now in
    let plans = c.args.plans.now.items in
    let e = c.offer_estimate-estimate.result in
    let estimated : AreEstimated cheapest o.inputs c.in-Some.inputs = subst (λ v. AreEstimated cheapest v c.in-Some.inputs) c.as_slice.ensures c.in-Some.ensures.some in
    let some = rw c.in-Some-2.is at c.in_ok-inputs.ensures.some in
    let chosen : AreChosen cheapest o.inputs c.in-Some-2.inputs = subst (λ v. AreChosen cheapest v c.in-Some-2.inputs) c.as_slice-2.ensures some in
    let done = found_more c.args.space plans cheapest c.args.number o c.in-Some.inputs c.in-Some-2.inputs e c.requires.found c.requires.offer c.requires.within estimated chosen c.offer_estimate-estimate.ensures in
    let x : FoundPlan = record { offer = c.args.number; inputs = c.in-Some-2.inputs; estimate = e } in
    let at : c.len-plan.result ≡ length plans = search rules in
    let Q : List FoundPlan → ℕ → Type 0 = λ v n. AreFound c.args.space v (set cheapest o.goal (Some (record { plan = n; estimate = e }))) in
    subst (λ v. Q v c.len-plan.result) (sym c.in_ok-push.ensures.items) (subst (λ n. Q (plans ++ x ∷ []) n) (sym at) done)
