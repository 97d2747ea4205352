use Rattle.std.proofs.Common.{◌≡◌, take}
use Rattle.algebra.proofs.condition.+copy.Given as goal

abbrev pub invariant-copy_all-loop-condition : goal.invariant-copy_all-loop-condition
invariant-copy_all-loop-condition l = l.copied.items ≡ take l.condition-index l.conditions
