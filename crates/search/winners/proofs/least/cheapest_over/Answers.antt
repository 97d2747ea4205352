use Rattle.std.proofs.Common.{◌≡◌, ap, sym, ◌∙◌, subst, ◌<◌, List, length, Option, Some, None}
use Rattle.std.proofs.lemmas.Option.{slice_get_within}
use Rattle.winners.specs.declared.found.Cheapest.{Cheapest}
use Rattle.winners.specs.declared.found.FoundPlan.{FoundPlan}
use Rattle.winners.specs.Found.{cheapest_of}
use Rattle.winners.specs.Offered.{HaveLabels, IsBuilt, SomeGoalLacks}
use Rattle.winners.proofs.Meeting.{least_labelled, never-lacks}
use Rattle.winners.proofs.least.cheapest_over.Goals as goal

pub returns-in_default-clause-some : goal.returns-in_default-clause-some
returns-in_default-clause-some c =
    let goals = c.args.goals.now in
    let found = c.in_ok-found.found in
    let lacks = rw c.in_default.is at c.in_ok-labels.ensures.none in
    absurd (never-lacks c.args.space c.args.log.now goals c.requires.collected found.cheapest.items c.in_ok-found.ensures.settled c.lines-lines.ensures.replays (subst (SomeGoalLacks goals) c.as_slice.ensures.value lacks))

pub returns-in_default-cheapest_of-clause-some : goal.returns-in_default-cheapest_of-clause-some
returns-in_default-cheapest_of-clause-some c =
    let found = c.in_ok-found.found in
    let none : cheapest_of found.cheapest.items c.args.number ≡ None = ap (λ cs. cheapest_of cs c.args.number) (sym c.as_slice-2.ensures.value) ∙ sym c.cheapest_of.ensures ∙ c.in_default-cheapest_of.is in
    absurd (never-lacks c.args.space c.args.log.now c.args.goals.now c.requires.collected found.cheapest.items c.in_ok-found.ensures.settled c.lines-lines.ensures.replays (record { number = c.args.number; within = c.requires.number; lacks = none }))

pub plan_of-requires-clause-number : goal.plan_of-requires-clause-number
plan_of-requires-clause-number c =
    let found = c.in_ok-found.found in
    let own = c.in-Some-cheapest_of.cheapest in
    let at : cheapest_of found.cheapest.items c.args.number ≡ Some own = ap (λ cs. cheapest_of cs c.args.number) (sym c.as_slice-2.ensures.value) ∙ sym c.cheapest_of.ensures ∙ c.in-Some-cheapest_of.is in
    let is = c.in_ok-found.ensures.found.each c.args.number own at in
    subst (λ (ps : List FoundPlan). own.plan < length ps) (sym c.as_slice-3.ensures.value) (slice_get_within found.plans.items own.plan is.plan is.plan_is)

pub returns-clause-best : goal.returns-clause-best
returns-clause-best c =
    let goals = c.args.goals.now in
    let found = c.in_ok-found.found in
    let own = c.in-Some-cheapest_of.cheapest in
    let have = rw c.in-Some.is at c.in_ok-labels.ensures.some in
    let labels = subst (λ (cs : List (Option Cheapest)). HaveLabels goals cs (length goals) c.in-Some.labels) c.as_slice.ensures.value have in
    let at : cheapest_of found.cheapest.items c.args.number ≡ Some own = ap (λ cs. cheapest_of cs c.args.number) (sym c.as_slice-2.ensures.value) ∙ sym c.cheapest_of.ensures ∙ c.in-Some-cheapest_of.is in
    let built = subst (λ (ps : List FoundPlan). IsBuilt c.args.space ps own.plan c.in_ok-plan.plan) c.as_slice-3.ensures.value c.in_ok-plan.ensures in
    least_labelled c.args.space c.args.log.now goals c.requires.collected found.cheapest.items c.in_ok-found.ensures.settled found.plans.items c.in-Some.labels c.args.number own c.in_ok-plan.plan c.in_ok-found.ensures.found labels at built
