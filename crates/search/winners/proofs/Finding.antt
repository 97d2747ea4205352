-- Plans, one after the other.
use Rattle.std.proofs.Common.{◌≡◌, ℕ, ◌+◌, ◌-◌, ◌<◌, ◌≤◌, List, [], ◌∷◌, ◌++◌, length, map, take, option_map, Option, Some, None, slice_get, slice_index, refl, sym, ap, ◌∙◌, arith, get_or, subst, set, ⊎_elim}
use Rattle.std.proofs.lemmas.Bool.{cases_eq}
use Rattle.std.proofs.lemmas.Option.{slice_get_within}
use Rattle.std.proofs.lemmas.List.{take_more, length-take-le, length-map}
use Rattle.physical.specs.declared.plan.Node.{Node}
use Rattle.costs.specs.declared.nodes.Estimate.{Estimate}
use Rattle.costs.specs.declared.nodes.Inputs.{Inputs}
use Rattle.costs.specs.Costs.{inputs_of, with_cut_costs, with_input, nothing}
use Rattle.costs.specs.Numbers.{cut}
use Rattle.costs.proofs.PlanEstimates.{next-input, node-cut}
use Rattle.winners.specs.declared.space.Offer.{Offer}
use Rattle.winners.specs.declared.space.Space.{Space}
use Rattle.winners.specs.declared.found.FoundPlan.{FoundPlan}
use Rattle.winners.specs.declared.found.Cheapest.{Cheapest}
use Rattle.winners.specs.Found.{or_none, cheapest_of, AreCheapest, SomeLacks, estimates, AreEstimated, AreChosen, estimate_over, offer_estimate, IsSettled, AreSettled, IsTried, IsWithin, AreOlder, ArePlansFor, IsPlan, ArePlans, IsFoundFor, AreFound}
use Rattle.winners.proofs.Lists.{some_inj, same_read, there, zip_push, zip_at, zip_weaker, zip_length, map_push, get-append, get-last, get-push, get-set}

-- ---- the cheapest of some goals

pub cheapest_more : (cheapest : List (Option Cheapest)) (goals : List ℕ) (i : ℕ) (cs : List Cheapest) (c : Cheapest) → i < length goals → cheapest_of cheapest (get_or goals i 0) ≡ Some c
    → AreCheapest cheapest (take i goals) cs → AreCheapest cheapest (take (i + 1) goals) (cs ++ c ∷ [])
cheapest_more cheapest goals i cs c lt e h = rw (take_more goals i 0 lt) (zip_push _ (take i goals) cs _ c h e)

pub some_lacks : (cheapest : List (Option Cheapest)) (goals : List ℕ) (i goal : ℕ) → slice_get goals i ≡ Some goal → cheapest_of cheapest goal ≡ None → SomeLacks cheapest goals
some_lacks cheapest goals i goal at e cs h =
    let tied = zip_at _ goals cs i goal h at in
    let has : cheapest_of cheapest goal ≡ Some tied.0 = tied.1 in
    absurd (cc)

same_cheapest : (cheapest : List (Option Cheapest)) (goals : List ℕ) (bs cs : List Cheapest) → AreCheapest cheapest goals bs → AreCheapest cheapest goals cs → bs ≡ cs
same_cheapest cheapest [] [] [] h k = refl
same_cheapest cheapest [] [] (c ∷ cs) h k = absurd k
same_cheapest cheapest [] (b ∷ bs) cs h k = absurd h
same_cheapest cheapest (g ∷ goals) [] cs h k = absurd h
same_cheapest cheapest (g ∷ goals) (b ∷ bs) [] h k = absurd k
same_cheapest cheapest (g ∷ goals) (b ∷ bs) (c ∷ cs) h k =
    ap (λ x. x ∷ bs) (same_read (cheapest_of cheapest g) b c h.0 k.0) ∙ ap (λ xs. c ∷ xs) (same_cheapest cheapest goals bs cs h.1 k.1)

-- ---- their estimates

pub none_estimated : record { first = nothing; second = nothing; later = 0 } ≡ with_cut_costs (inputs_of [])
unfolding cut
none_estimated = refl

pub estimates_more : (cheapest : List (Option Cheapest)) (goals : List ℕ) (i : ℕ) (c : Cheapest) (old new : Inputs) → i < length goals → cheapest_of cheapest (get_or goals i 0) ≡ Some c
    → AreEstimated cheapest (take i goals) old → new ≡ with_input old i c.estimate → AreEstimated cheapest (take (i + 1) goals) new
estimates_more cheapest goals i c old new lt e h news =
    let (cs, are, olds) = h in
    let size : i ≡ length (estimates cs) = sym (length-take-le i goals (omega (arith, lt))) ∙ zip_length _ (take i goals) cs are ∙ sym (length-map cs (λ (x : Cheapest). x.estimate)) in (
      cs ++ c ∷ [],
      cheapest_more cheapest goals i cs c lt e are,
      news ∙ ap (λ (x : Inputs). with_input x i c.estimate) olds ∙ ap (λ n. with_input (with_cut_costs (inputs_of (estimates cs))) n c.estimate) size
          ∙ next-input (estimates cs) c.estimate ∙ ap (λ xs. with_cut_costs (inputs_of xs)) (sym (map_push (λ (x : Cheapest). x.estimate) cs c)),
    )

pub chosen_more : (cheapest : List (Option Cheapest)) (goals : List ℕ) (i : ℕ) (c : Cheapest) (old new : List ℕ) → i < length goals → cheapest_of cheapest (get_or goals i 0) ≡ Some c
    → AreChosen cheapest (take i goals) old → new ≡ old ++ c.plan ∷ [] → AreChosen cheapest (take (i + 1) goals) new
chosen_more cheapest goals i c old new lt e h news =
    let (cs, are, olds) = h in
    (cs ++ c ∷ [], cheapest_more cheapest goals i cs c lt e are, news ∙ ap (λ v. v ++ c.plan ∷ []) olds ∙ sym (map_push (λ (x : Cheapest). x.plan) cs c))

estimate-cut : (by : Space) (o : Offer) (node : Node) (x : Inputs) → estimate_over by o node (with_cut_costs x) ≡ estimate_over by o node x
estimate-cut by o node x =
    ap (λ cost. record { rows = slice_index by.rows.now o.goal; cost = cost }) (node-cut by.statistics.now by.instances.now node (slice_index by.rows.now o.goal) x)

-- ---- offers that need not be taken

-- what is estimated of the offer over inputs, whichever node stands at its number
abbrev pub IsEstimateOf : Space → Offer → Inputs → Estimate → Type 0
IsEstimateOf by o inputs e = (node : Node) → slice_get by.nodes.now o.node ≡ Some node → e ≡ estimate_over by o node inputs

pub settled_by : (by : Space) (cheapest : List (Option Cheapest)) (o : Offer) (inputs : Inputs) (e : Estimate) (c : Cheapest) → AreEstimated cheapest o.inputs inputs → IsEstimateOf by o inputs e
    → cheapest_of cheapest o.goal ≡ Some c → c.estimate.cost ≤ e.cost → IsSettled by cheapest o
settled_by by cheapest o inputs e c estimated price at le node node_is bs are =
    let (cs, have, is) = estimated in
    let same = same_cheapest cheapest o.inputs cs bs have are in
    let over : e ≡ offer_estimate by o node (estimates bs) =
    price node node_is ∙ ap (estimate_over by o node) is ∙ estimate-cut by o node (inputs_of (estimates cs)) ∙ ap (λ xs. offer_estimate by o node (estimates xs)) same in
    (c, at, subst (λ (x : Estimate). c.estimate.cost ≤ x.cost) over le)

pub settled_without : (by : Space) (cheapest : List (Option Cheapest)) (o : Offer) → SomeLacks cheapest o.inputs → IsSettled by cheapest o
settled_without by cheapest o lacks node node_is cs are = absurd (lacks cs are)

-- one offer less is left
pub settled_more : (by : Space) (start found found' : List FoundPlan) (cheapest cheapest' : List (Option Cheapest)) (left : ℕ) (o : Offer) → 0 < left → slice_get by.offers.now (left - 1) ≡ Some o
    → length start ≤ length found → IsTried by o found found' cheapest cheapest' → (length found ≡ length start → AreSettled by cheapest left)
    → (length start ≤ length found') × (length found' ≡ length start → AreSettled by cheapest' (left - 1))
settled_more by start found found' cheapest cheapest' left o lt o_is le tried before = ⊎_elim
    (λ same.
    let sizes : length found' ≡ length found = ap length same.1 in (
      omega arith,
      λ even i p low at. subst (λ cs. IsSettled by cs p) (sym same.0) (⊎_elim
          (λ last. subst (IsSettled by cheapest) (same_read (slice_get by.offers.now i) o p (ap (slice_get by.offers.now) last ∙ o_is) at) same.2)
          (λ other. before (omega arith) i p (omega arith) at)
          (cases_eq i (left - 1))),
    ))
    (λ grows. (omega arith, λ even. absurd (omega arith)))
    tried.outcome

-- ---- a plan more

module _ (by : Space) (found : List FoundPlan) (cheapest : List (Option Cheapest)) (each : (goal : ℕ) (c : Cheapest) → cheapest_of cheapest goal ≡ Some c → IsFoundFor by found goal c) where
  abbrev Gathered : List ℕ → List Cheapest → List FoundPlan → Type 0
  Gathered goals cs xs = AreOlder found (length found) (map (λ c. c.plan) cs) xs × ArePlansFor by.offers.now goals xs × (map (λ x. x.estimate) xs ≡ estimates cs)

  pub gathered : (goals : List ℕ) (cs : List Cheapest) → AreCheapest cheapest goals cs → (xs : List FoundPlan) × Gathered goals cs xs
  gathered [] [] h = ([], (tt, tt, refl))
  gathered [] (c ∷ cs) h = absurd h
  gathered (g ∷ goals) [] h = absurd h
  gathered (g ∷ goals) (c ∷ cs) h =
      let (xs, all) = gathered goals cs h.1 in
      let own = each g c h.0 in (
        own.plan ∷ xs,
        (
          ((slice_get_within found c.plan own.plan own.plan_is, own.plan_is), all.0),
          (own.goal_is, all.1),
          ap (λ e. e ∷ map (λ (x : FoundPlan). x.estimate) xs) own.estimate_is ∙ ap (λ es. c.estimate ∷ es) all.2,
        ),
      )

older-grow : (found : List FoundPlan) (x : FoundPlan) (m n : ℕ) → m ≤ n → (ks : List ℕ) (xs : List FoundPlan) → AreOlder found m ks xs → AreOlder (found ++ x ∷ []) n ks xs
older-grow found x m n le = zip_weaker _ _ (λ k y h. ((let lt : k < m = h.0 in let r : k < n = omega arith in r), get-append found (x ∷ []) k y h.1))

plan-grow : (by : Space) (found : List FoundPlan) (x y : FoundPlan) (m n : ℕ) → m ≤ n → IsPlan by found m y → IsPlan by (found ++ x ∷ []) n y
plan-grow by found x y m n le h = record {
  offer = h.offer;
  node = h.node;
  below = h.below;
  offer_is = h.offer_is;
  node_is = h.node_is;
  older = older-grow found x m n le y.inputs h.below h.older;
  goals = h.goals;
  estimate_is = h.estimate_is;
}

plans-push : (by : Space) (found : List FoundPlan) (x : FoundPlan) → ArePlans by found → IsPlan by found (length found) x → ArePlans by (found ++ x ∷ [])
plans-push by found x plans is k y at = ⊎_elim
    (λ old. plan-grow by found x y k k (omega arith) (plans k y old))
    (λ new. subst (λ z. IsPlan by (found ++ x ∷ []) k z) new.1 (plan-grow by found x x (length found) k (omega (arith, new.0)) is))
    (get-push found x y k at)

pub found_more : (by : Space) (found : List FoundPlan) (cheapest : List (Option Cheapest)) (number : ℕ) (o : Offer) (inputs : Inputs) (plans : List ℕ) (e : Estimate)
    → AreFound by found cheapest → slice_get by.offers.now number ≡ Some o → IsWithin by (length cheapest) o
    → AreEstimated cheapest o.inputs inputs → AreChosen cheapest o.inputs plans → IsEstimateOf by o inputs e
    → AreFound by (found ++ record { offer = number; inputs = plans; estimate = e } ∷ []) (set cheapest o.goal (Some (record { plan = length found; estimate = e })))
found_more by found cheapest number o inputs plans e are offer_is within estimated chosen price =
    let (node, node_is) = there by.nodes.now o.node within.node in
    let x : FoundPlan = record { offer = number; inputs = plans; estimate = e } in
    let c : Cheapest = record { plan = length found; estimate = e } in
    let (bs, has, is) = estimated in
    let (cs, have, plans_are) = chosen in
    let same = same_cheapest cheapest o.inputs bs cs has have in
    let (xs, gather) = gathered by found cheapest are.each o.inputs cs have in
    let (older, for, estimates_are) = gather in
    let own : IsPlan by found (length found) x = record {
      offer = o;
      node = node;
      below = xs;
      offer_is = offer_is;
      node_is = node_is;
      older = subst (λ ks. AreOlder found (length found) ks xs) (sym plans_are) older;
      goals = for;
      estimate_is = price node node_is ∙ ap (estimate_over by o node) is ∙ estimate-cut by o node (inputs_of (estimates bs)) ∙ ap (λ ys. offer_estimate by o node (estimates ys)) same ∙ ap (offer_estimate by o node) (sym estimates_are);
    } in
    record {
      plans = plans-push by found x are.plans own;
      each = λ goal d at. ⊎_elim
          (λ new.
          let d_is : d ≡ c = some_inj d c (sym at ∙ ap or_none new.1) in
          subst (λ v. IsFoundFor by (found ++ x ∷ []) goal v) (sym d_is) (record {
            plan = x;
            plan_is = get-last found x;
            goal_is = ap (option_map (λ (p : Offer). p.goal)) offer_is ∙ ap (λ v. Some v) (sym new.0);
            estimate_is = refl;
          }))
          (λ old.
          let before = are.each goal d (sym (ap or_none old) ∙ at) in
          record {
            plan = before.plan;
            plan_is = get-append found (x ∷ []) d.plan before.plan before.plan_is;
            goal_is = before.goal_is;
            estimate_is = before.estimate_is;
          })
          (get-set cheapest o.goal (Some c) goal within.goal);
    }
