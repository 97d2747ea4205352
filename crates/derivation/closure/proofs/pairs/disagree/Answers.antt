use Rattle.std.proofs.Common.{}
use Rattle.rules.specs.Matches.{line_in}
use Rattle.closure.proofs.Lacking.{alike_disagree}
use Rattle.closure.proofs.pairs.disagree.Goals as goal

pub returns : goal.returns
returns c = alike_disagree c.args.log.now.instances c.args.log.now.log (line_in c.args.one) (line_in c.args.other) _ _ c.in_ok-disagree.ensures c.are_same.ensures c.if-are_same.false
