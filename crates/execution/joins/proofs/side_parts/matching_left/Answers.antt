use Rattle.std.proofs.lemmas.Result.{IfOk-weaker}
use Rattle.relations.specs.Relations.{env_of}
use Rattle.joins.proofs.SideParts.{left-restricted-twice}
use Rattle.joins.proofs.side_parts.matching_left.Goals as goal

pub returns : goal.returns
returns c =
    IfOk-weaker c.restricted_left.result _ _
    (λ l. left-restricted-twice c.args.conditions.now c.args.left c.args.right.now c.in_ok-left.left l (env_of c.args.env.now) c.in_ok-left.ensures)
    c.restricted_left.ensures
