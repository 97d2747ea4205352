use Rattle.std.proofs.Common.{◌≡◌, map, take}
use Rattle.query.specs.Meaning.{all_of, any_of}
use Rattle.relations.specs.PairTests.{pair_truth}
use Rattle.relations.proofs.pair_tests.+truths.Given as goal

abbrev pub invariant-all_of_pair-loop-test : goal.invariant-all_of_pair-loop-test
invariant-all_of_pair-loop-test l = l.all ≡ all_of (map (λ t. pair_truth t l.left l.right) (take l.test-index l.tests))

abbrev pub invariant-any_of_pair-loop-test : goal.invariant-any_of_pair-loop-test
invariant-any_of_pair-loop-test l = l.any ≡ any_of (map (λ t. pair_truth t l.left l.right) (take l.test-index l.tests))
