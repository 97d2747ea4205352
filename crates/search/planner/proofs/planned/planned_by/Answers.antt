use Rattle.std.proofs.Common.{ap, ◌∙◌, reverse}
use Rattle.planner.proofs.ChosenPlans.{planned}
use Rattle.planner.proofs.planned.planned_by.Goals as goal

pub returns : goal.returns
returns c =
    let certified = c.in_ok-certificate.ensures in
    planned c.args.planning.statistics.now c.args.planning.query.now c.requires.ready.bound c.args.planning.limit c.args.searched c.requires.searched c.lines-lines.ensures.replays
    c.args.planning.exploration c.requires.told c.from_vec.result (ap reverse c.from_vec.ensures ∙ c.into_lines.ensures) c.in_ok-certificate.certificate
    (record { part = certified.part; replayed_is = certified.replays; cost = certified.cost; cheap = certified.cheap })
