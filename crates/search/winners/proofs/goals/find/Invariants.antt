use Rattle.std.proofs.Common.{take}
use Rattle.winners.specs.Numbers.{IsNotAmong}
use Rattle.winners.proofs.goals.find.Given as goal

abbrev pub invariant-loop-number : goal.invariant-loop-number
invariant-loop-number l = IsNotAmong l.list (take l.number-index l.numbers) l.goal
