use Rattle.std.proofs.Common.{◌≡◌, length}
use Rattle.winners.proofs.goals.Goals.new.Given as goal

abbrev pub invariant-loop-made : goal.invariant-loop-made
invariant-loop-made l = length l.by_class.items ≡ l._made
