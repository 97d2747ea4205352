use Rattle.std.specs.List.{AllByRecursion}
use Rattle.operators.specs.Sources.{IsSortedIndex}
use Rattle.operators.proofs.sources.IndexedTables.for_plan.Given as goal

abbrev pub invariant-loop-access : goal.invariant-loop-access
invariant-loop-access l = AllByRecursion (IsSortedIndex l.tables) l.indexes.items
