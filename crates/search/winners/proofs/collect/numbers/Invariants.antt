use Rattle.std.proofs.Common.{take}
use Rattle.algebra.specs.Columns.{columns_at}
use Rattle.winners.specs.Numbers.{AreNumbers, IsIndexed, Keeps}
use Rattle.winners.proofs.collect.numbers.Given as goal

abbrev pub invariant-loop-goal : goal.invariant-loop-goal
invariant-loop-goal l = record {
  indexed : IsIndexed l.derived.log.now.log (columns_at l.derived.columns.now) l.goals;
  kept : Keeps l.initial.goals.list.items l.goals.list.items;
  are : AreNumbers l.goals.list.items l.numbers (take l.goal-index l.wanted);
}
