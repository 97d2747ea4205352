use Rattle.std.proofs.Common.{◌≡◌, length}
use Rattle.joins.specs.KeyMarks.{AreMarked, key_at}
use Rattle.joins.proofs.key_marks.marked_buckets.Given as goal

abbrev pub invariant-loop-number : goal.invariant-loop-number
invariant-loop-number l = record {
  size : length l.marks ≡ l.size;
  marks : AreMarked (key_at l.columns) l.number l.marks;
}
