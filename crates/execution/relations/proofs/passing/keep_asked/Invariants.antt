use Rattle.std.proofs.Common.{◌≡◌, ◌≤◌, drop, filter, length, take}
use Rattle.values.specs.Truth.{is_true}
use Rattle.relations.specs.Parts.{row_at}
use Rattle.relations.specs.Resolved.{inner_row, test_truth}
use Rattle.relations.proofs.passing.keep_asked.Given as goal

abbrev pub invariant-loop-place : goal.invariant-loop-place
invariant-loop-place l = record {
  kept : take l.kept l.rows.items ≡ filter (λ n. is_true (test_truth l.test (inner_row l.beside) (row_at l.right.rows.parts.items n))) (take l.place l.fn.rows.items);
  rest : drop l.place l.rows.items ≡ drop l.place l.fn.rows.items;
  few : l.kept ≤ l.place;
  long : length l.rows.items ≡ length l.fn.rows.items;
}
