use Rattle.std.proofs.Common.{◌≡◌, length, map}
use Rattle.std.specs.List.{range_with_len}
use Rattle.grouping.specs.Groups.{AreNumbered, first_seen, same_at}
use Rattle.grouping.specs.KeyBuckets.{AreHashed, column_key}
use Rattle.grouping.specs.RowNumbers.{numbers_in}
use Rattle.grouping.proofs.hashed_groups.group_numbers.Given as goal

abbrev pub invariant-loop-number : goal.invariant-loop-number
invariant-loop-number l = record {
  hashed : AreHashed (map (column_key l.columns.items) (numbers_in l.groups.firsts)) l.hashes;
  firsts : numbers_in l.groups.firsts ≡ first_seen (same_at l.places l.rows) (range_with_len 0 l.number);
  numbered : AreNumbered (same_at l.places l.rows) (numbers_in l.groups.numbers);
  each : length (numbers_in l.groups.numbers) ≡ l.number;
}
