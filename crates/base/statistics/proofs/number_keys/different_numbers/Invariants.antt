use Rattle.std.proofs.Common.{◌≡◌, ◌≤◌, ◌+◌, ◌*◌, length, nat_eq}
use Rattle.std.specs.Set.{distinct_count}
use Rattle.schema.specs.Databases.{most_rows}
use Rattle.statistics.proofs.number_keys.different_numbers.Given as goal

-- what is told and what is left is all
abbrev pub invariant-loop-sift_number : goal.invariant-loop-sift_number
invariant-loop-sift_number l = record {
  count : distinct_count nat_eq l.fn.numbers.items ≡ l.told + distinct_count nat_eq l.left.items;
  few : length l.left.items ≤ most_rows;
  low : l.told ≤ l.sift_number * (most_rows + 1);
}
