use Rattle.std.proofs.Common.{◌≡◌, true, false, take}
use Rattle.std.specs.List.{list_all, list_any}
use Rattle.values.specs.Truth.{is_true}
use Rattle.relations.specs.PairTests.{pair_truth}
use Rattle.relations.proofs.pair_tests.+passes.Given as goal

abbrev pub invariant-all_true_of_pair-loop-test : goal.invariant-all_true_of_pair-loop-test
invariant-all_true_of_pair-loop-test l = list_all (λ t. is_true (pair_truth t l.left l.right)) (take l.test-index l.tests) ≡ true

abbrev pub invariant-some_true_of_pair-loop-test : goal.invariant-some_true_of_pair-loop-test
invariant-some_true_of_pair-loop-test l = list_any (λ t. is_true (pair_truth t l.left l.right)) (take l.test-index l.tests) ≡ false
