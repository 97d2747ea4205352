use Rattle.std.proofs.Common.{}
use Rattle.labels.specs.Candidates.{HasAccessesBelow}
use Rattle.labels.proofs.accesses.accesses_of.Given as goal

abbrev pub invariant-loop-line : goal.invariant-loop-line
invariant-loop-line l = HasAccessesBelow l.log.instances l.log.log l.line l.found.items
