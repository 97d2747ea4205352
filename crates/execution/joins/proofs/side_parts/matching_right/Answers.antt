use Rattle.std.proofs.lemmas.Result.{IfOk-weaker}
use Rattle.relations.specs.Relations.{env_of}
use Rattle.joins.proofs.SideParts.{restricted-twice}
use Rattle.joins.proofs.side_parts.matching_right.Goals as goal

pub returns : goal.returns
returns c =
    IfOk-weaker c.restricted_right.result _ _
    (λ r. restricted-twice c.args.conditions.now c.args.left.now c.args.right c.in_ok-right.right r (env_of c.args.env.now) c.in_ok-right.ensures)
    c.restricted_right.ensures
