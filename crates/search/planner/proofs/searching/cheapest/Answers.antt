use Rattle.std.proofs.Common.{◌≡◌, subst, false, Option}
use Rattle.std.specs.Option.{IfNone}
use Rattle.labels.specs.Offers.{goal_of, is_goal}
use Rattle.labels.specs.Plans.{columns_in}
use Rattle.logs.specs.Logged.{Logged}
use Rattle.winners.specs.declared.least.BestPlan.{BestPlan}
use Rattle.planner.proofs.RootGoals.{found_some}
use Rattle.planner.proofs.searching.cheapest.Goals as goal

pub unreachable-requires : goal.unreachable-requires
unreachable-requires c =
    let L : Logged = c.args.log.now in
    found_some c.args.planning.query.now c.requires.ready.bound L c.requires.log c.lines-replays.ensures.replays c.in_ok-root.root c.in_ok-root.ensures
    (subst (λ (o : Option BestPlan). IfNone o (is_goal L.log (columns_in L.instances L.log) (goal_of L.log c.in_ok-root.root.class c.in_ok-root.root.order) ≡ false)) c.in-None.is c.in_ok-best.ensures.none)
