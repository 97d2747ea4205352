use Rattle.std.proofs.Common.{}
use Rattle.labels.specs.Candidates.{HasAccesses}
use Rattle.labels.proofs.accesses.push_accesses.Given as goal

abbrev pub invariant-loop-index : goal.invariant-loop-index
invariant-loop-index l = HasAccesses l.line l.instance l.index l.fn.found.items l.found.items
