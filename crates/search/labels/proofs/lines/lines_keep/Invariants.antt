use Rattle.std.proofs.Common.{map, take}
use Rattle.std.specs.List.{AllByRecursion}
use Rattle.labels.specs.Bounding.{LineKeeps}
use Rattle.labels.proofs.lines.lines_keep.Given as goal

abbrev pub invariant-loop-line : goal.invariant-loop-line
invariant-loop-line l = AllByRecursion (LineKeeps l.by (map (λ k. k.now) l.labels)) (take l.line-index l.lines)
