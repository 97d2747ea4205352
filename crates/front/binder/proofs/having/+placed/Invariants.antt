use Rattle.std.proofs.Common.{◌≡◌, ◌+◌, ◌++◌, drop, map}
use Rattle.binder.specs.HavingShapes.{all_at, having_shape}
use Rattle.binder.proofs.HavingLoops.{count_of}
use Rattle.binder.proofs.having.+placed.Given as goal

abbrev pub invariant-all_placed-loop-part : goal.invariant-all_placed-loop-part
invariant-all_placed-loop-part l = record {
  conditions : l.conds ++ all_at (map having_shape (drop l.part-index l.parts)) l.place ≡ all_at (map having_shape l.parts) l.fn.place;
  place : l.place + count_of (drop l.part-index l.parts) ≡ l.fn.place + count_of l.parts;
}
