use Rattle.std.proofs.Common.{◌≡◌, ◌+◌, drop}
use Rattle.binder.proofs.HavingLoops.{tests_of}
use Rattle.binder.proofs.having.+tests.Given as goal

abbrev pub invariant-all_tests-loop-part : goal.invariant-all_tests-loop-part
invariant-all_tests-loop-part l = l.count + tests_of (drop l.part-index l.parts) ≡ tests_of l.parts
