use Rattle.std.proofs.Common.{◌≡◌, ℕ, length, take, if◌then◌else◌, slice_index_or}
use Rattle.algebra.specs.Columns.{has}
use Rattle.logs.proofs.sets.relabel.Given as goal

abbrev pub invariant-loop-class : goal.invariant-loop-class
invariant-loop-class l = record {
  count : length l.sets ≡ length l.fn.sets;
  sets : (g : ℕ) → slice_index_or l.sets g 0 ≡ (if has (take l.class-index l.classes) g then l.set else slice_index_or l.fn.sets g 0);
}
