use Rattle.std.proofs.Common.{}
use Rattle.labels.proofs.Indexed.{one-more}
use Rattle.labels.proofs.accesses.push_accesses.Goals as goal

pub loop-index-preserved : goal.loop-index-preserved
loop-index-preserved c = one-more c.args.line c.args.instance c.loop-index.index c.args.found.now.items c.loop-index.found.items c.push.new.self.items c.loop-index.invariant c.in_ok-push.ensures.items
