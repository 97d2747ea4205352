use Rattle.std.proofs.Common.{◌≡◌, ℕ, map, take}
use Rattle.relations.specs.Parts.{row_at}
use Rattle.relations.specs.PairTests.{left_row, pair_truth}
use Rattle.relations.specs.Resolved.{test_truth}
use Rattle.relations.proofs.pair_tests.+pairs.Given as goal

abbrev pub invariant-pair_tests-loop-test : goal.invariant-pair_tests-loop-test
invariant-pair_tests-loop-test l = (i j : ℕ) → map (λ t. pair_truth t i j) l.found.items ≡ map (λ t. test_truth t (left_row l.left i) (row_at l.right.rows.parts.items j)) (take l.test-index l.tests)
