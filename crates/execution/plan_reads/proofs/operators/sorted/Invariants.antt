use Rattle.std.proofs.Common.{◌≡◌, map, take}
use Rattle.plan_reads.proofs.operators.sorted.Given as goal

abbrev pub invariant-loop-key : goal.invariant-loop-key
invariant-loop-key l = l.read.items ≡ map (λ k. k.column) (take l.key-index l.keys)
