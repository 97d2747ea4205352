use Rattle.std.proofs.Common.{ap, arith, ◌∷◌, [], length}
use Rattle.std.proofs.lemmas.List.{length-append}
use Rattle.joins.proofs.JoinChains.{more-columns, more-come, more-linked}
use Rattle.joins.proofs.chunked.ChunkedJoin.below.Goals as goal

pub invariant_of-result-clause-some : goal.invariant_of-result-clause-some
invariant_of-result-clause-some c = omega (arith, ap length c.in_ok-push.ensures.items, length-append c.args.self.stages.items (c.args.stage ∷ []))

pub invariant_of-result-clause-linked : goal.invariant_of-result-clause-linked
invariant_of-result-clause-linked c =
    more-linked c.args.self.stages.items c.push.new.self.items c.args.stage c.in_ok-push.ensures.items c.args.self.some c.args.self.linked c.requires

pub returns : goal.returns
returns c =
    let xs = c.args.self.stages.items in
    let stages = c.push.new.self.items in
    let s = c.args.stage in
    let is = c.in_ok-push.ensures.items in
    record { columns_are = more-columns xs stages s is c.args.self.some; rows_are = more-come xs stages s is c.args.self.some }
