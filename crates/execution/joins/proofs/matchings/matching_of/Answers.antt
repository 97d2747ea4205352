use Rattle.relations.specs.Relations.{env_of}
use Rattle.joins.proofs.SideParts.{right-in-place}
use Rattle.joins.proofs.matchings.matching_of.Goals as goal

pub returns-in_ok-right-in-Left : goal.returns-in_ok-right-in-Left
returns-in_ok-right-in-Left c =
    let right = c.in_ok-right-in-Left in
    right-in-place c.args.matching.now c.sure_conditions.result.now c.args.left c.args.right (env_of c.args.env.now) right.right c.sure_conditions.ensures right.ensures
