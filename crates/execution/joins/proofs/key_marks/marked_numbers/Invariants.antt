use Rattle.std.proofs.Common.{◌≡◌, filter}
use Rattle.std.specs.List.{range_with_len}
use Rattle.joins.specs.KeyMarks.{has_mark, key_at}
use Rattle.joins.proofs.key_marks.marked_numbers.Given as goal

abbrev pub invariant-loop-number : goal.invariant-loop-number
invariant-loop-number l = l.kept.items ≡ filter (has_mark (key_at l.columns) l.marks) (range_with_len 0 l.number)
