use Rattle.std.proofs.Common.{◌≡◌, ap, sym, ◌∙◌, subst, ◌<◌, ℕ, List, false, length, map, slice_get, Some}
use Rattle.std.proofs.lemmas.Option.{IfSome_then, slice_get_within}
use Rattle.algebra.specs.Columns.{columns_at}
use Rattle.logs.specs.Logged.{Logged}
use Rattle.costs.specs.Cardinalities.{rows_at}
use Rattle.labels.specs.declared.goal.Goal.{Goal}
use Rattle.labels.specs.Offers.{goal_of, is_goal}
use Rattle.labels.specs.Plans.{columns_in}
use Rattle.winners.specs.declared.space.Space.{Space}
use Rattle.winners.specs.Collected.{IsMet}
use Rattle.winners.specs.Numbers.{AreClosed}
use Rattle.winners.proofs.EachGoal.{closed}
use Rattle.winners.proofs.Meeting.{collected}
use Rattle.winners.proofs.least.best.Goals as goal

pub returns-then-not-is_goal-clause-none : goal.returns-then-not-is_goal-clause-none
returns-then-not-is_goal-clause-none c =
    let L = c.args.log.now in
    let D = c.of-derived.result in
    let wanted = c.in_ok-wanted.wanted in
    let no : is_goal D.log.now.log (columns_at D.columns.now) wanted ≡ false = sym c.is_goal.ensures ∙ c.if-not-is_goal.true in
    subst (λ (g : Goal). is_goal L.log (columns_in L.instances L.log) g ≡ false) (c.in_ok-wanted.ensures ∙ ap (goal_of L.log c.args.root.now.class) c.as_slice.ensures)
    (subst (λ (k : ℕ → List ℕ). is_goal L.log k wanted ≡ false) c.of-derived.ensures.columns (subst (λ (l : Logged). is_goal l.log (columns_at D.columns.now) wanted ≡ false) c.of-derived.ensures.log no))

pub met_from-requires-clause-closed : goal.met_from-requires-clause-closed
met_from-requires-clause-closed c =
    let L = c.args.log.now in
    let D = c.of-derived.result in
    subst (λ (l : Logged). AreClosed l.instances l.log (columns_at D.columns.now)) (sym c.of-derived.ensures.log)
    (subst (AreClosed L.instances L.log) (sym c.of-derived.ensures.columns) (closed L.instances L.own L.log c.lines-lines.ensures.replays))

pub cheapest_over-requires-clause-collected : goal.cheapest_over-requires-clause-collected
cheapest_over-requires-clause-collected c =
    let L = c.args.log.now in
    let D = c.of-derived.result in
    let m = c.in_ok-met.met in
    let goals = c.as_slice-goals.result.now in
    let space : Space = record { statistics = c.args.statistics; instances = c.instances.result; nodes = c.as_slice-2.result; offers = c.as_slice-3.result; rows = c.as_slice-4.result } in
    let rows = c.as_slice-4.ensures.value ∙ c.in_ok-rows.ensures ∙ ap (map (λ (g : Goal). rows_at c.args.cardinalities.now g.class)) c.as_slice-goals.ensures.value in
    let met : IsMet L.instances L.log (columns_at D.columns.now) c.in_ok-wanted.wanted m = subst (λ (l : Logged). IsMet l.instances l.log (columns_at D.columns.now) c.in_ok-wanted.wanted m) c.of-derived.ensures.log c.in_ok-met.ensures in
    collected space L m c.args.cardinalities.now (columns_at D.columns.now) c.instances.ensures c.as_slice-2.ensures.value c.as_slice-3.ensures.value rows c.requires c.of-derived.ensures.columns c.in_ok-wanted.wanted met goals c.as_slice-goals.ensures.value

pub cheapest_over-requires-clause-number : goal.cheapest_over-requires-clause-number
cheapest_over-requires-clause-number c =
    let m = c.in_ok-met.met in
    let G = m.goals.list.items in
    subst (λ (gs : List Goal). m.root < length gs) (sym c.as_slice-goals.ensures.value) (slice_get_within G m.root c.in_ok-wanted.wanted c.in_ok-met.ensures.root_is)

pub returns-clause-labelled : goal.returns-clause-labelled
returns-clause-labelled c =
    let L = c.args.log.now in
    let root = c.args.root.now in
    let m = c.in_ok-met.met in
    let wanted_is = c.in_ok-wanted.ensures ∙ ap (goal_of L.log root.class) c.as_slice.ensures in
    let root_is : slice_get c.as_slice-goals.result.now m.root ≡ Some (goal_of L.log root.class root.order) = ap (λ gs. slice_get gs m.root) c.as_slice-goals.ensures.value ∙ c.in_ok-met.ensures.root_is ∙ ap (λ (g : Goal). Some g) wanted_is in
    IfSome_then c.in_ok-found.found c.in_ok-found.ensures.best (λ b h. (h root root_is).0)

pub returns-clause-cost : goal.returns-clause-cost
returns-clause-cost c =
    let L = c.args.log.now in
    let root = c.args.root.now in
    let m = c.in_ok-met.met in
    let wanted_is = c.in_ok-wanted.ensures ∙ ap (goal_of L.log root.class) c.as_slice.ensures in
    let root_is : slice_get c.as_slice-goals.result.now m.root ≡ Some (goal_of L.log root.class root.order) = ap (λ gs. slice_get gs m.root) c.as_slice-goals.ensures.value ∙ c.in_ok-met.ensures.root_is ∙ ap (λ (g : Goal). Some g) wanted_is in
    IfSome_then c.in_ok-found.found c.in_ok-found.ensures.best (λ b h. (h root root_is).1)
