use Rattle.std.proofs.Common.{◌≡◌, length, take}
use Rattle.std.specs.List.{range_with_len}
use Rattle.relations.proofs.passing.fill_range.Given as goal

abbrev pub invariant-loop-place : goal.invariant-loop-place
invariant-loop-place l = record {
  filled : take l.place l.rows.items ≡ range_with_len l.start l.place;
  long : length l.rows.items ≡ l.count;
}
