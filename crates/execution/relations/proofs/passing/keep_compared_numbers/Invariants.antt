use Rattle.std.proofs.Common.{◌≡◌, ◌≤◌, drop, filter, length, take}
use Rattle.values.specs.Truth.{compare, is_true}
use Rattle.values.specs.declared.value.Value.TheVariants as value
use Rattle.relations.specs.RowColumns.{number_value}
use Rattle.relations.proofs.passing.keep_compared_numbers.Given as goal

abbrev pub invariant-loop-place : goal.invariant-loop-place
invariant-loop-place l = record {
  kept : take l.kept l.rows.items ≡ filter (λ n. is_true (compare l.fn.comparison (value.Int l.fn.known) (number_value l.fn.column n))) (take l.place l.fn.rows.items);
  rest : drop l.place l.rows.items ≡ drop l.place l.fn.rows.items;
  few : l.kept ≤ l.place;
  long : length l.rows.items ≡ length l.fn.rows.items;
}
