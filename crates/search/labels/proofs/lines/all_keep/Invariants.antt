use Rattle.std.proofs.Common.{ℕ, ◌<◌}
use Rattle.std.specs.List.{AllByRecursion}
use Rattle.labels.specs.Bounding.{IsKeptByAll}
use Rattle.labels.specs.ByClass.{of_class}
use Rattle.labels.proofs.lines.all_keep.Given as goal

abbrev pub invariant-loop-class : goal.invariant-loop-class
invariant-loop-class l = (c : ℕ) → c < l.class → AllByRecursion (IsKeptByAll l.by) (of_class l.by.labels.now c)
