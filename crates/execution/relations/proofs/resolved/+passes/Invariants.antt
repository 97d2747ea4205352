use Rattle.std.proofs.Common.{◌≡◌, true, false, take}
use Rattle.std.specs.List.{list_any}
use Rattle.values.specs.Truth.{is_true}
use Rattle.relations.specs.Parts.{row_at}
use Rattle.relations.specs.Resolved.{all_pass, inner_row, test_truth}
use Rattle.relations.proofs.resolved.+passes.Given as goal

abbrev pub invariant-passes_all-loop-test : goal.invariant-passes_all-loop-test
invariant-passes_all-loop-test l = all_pass l.right (inner_row l.beside) (take l.test-index l.tests) l.number ≡ true

abbrev pub invariant-passes_some-loop-test : goal.invariant-passes_some-loop-test
invariant-passes_some-loop-test l = list_any (λ t. is_true (test_truth t (inner_row l.beside) (row_at l.right.rows.parts.items l.number))) (take l.test-index l.tests) ≡ false
