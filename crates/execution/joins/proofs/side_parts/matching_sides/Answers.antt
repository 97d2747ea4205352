use Rattle.relations.specs.Relations.{env_of}
use Rattle.joins.proofs.SideParts.{left-then-right, right-then-left}
use Rattle.joins.proofs.side_parts.matching_sides.Goals as goal

pub returns-then-branch : goal.returns-then-branch
returns-then-branch c =
    right-then-left c.args.conditions.now c.args.left c.args.right c.in_ok-left.left c.in_ok-right.right (env_of c.args.env.now) c.in_ok-right.ensures c.in_ok-left.ensures

pub returns : goal.returns
returns c =
    left-then-right c.args.conditions.now c.args.left c.args.right c.in_ok-left-2.left c.in_ok-right-2.right (env_of c.args.env.now) c.in_ok-left-2.ensures c.in_ok-right-2.ensures
