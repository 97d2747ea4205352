use Rattle.std.proofs.Common.{◌≡◌, false}
use Rattle.std.specs.List.{list_any, range_with_len}
use Rattle.relations.specs.PairTests.{pairs_pass}
use Rattle.operators.proofs.existence.some_pass.Given as goal

abbrev pub invariant-loop-number : goal.invariant-loop-number
invariant-loop-number l = list_any (pairs_pass l.tests 0) (range_with_len 0 l.number) ≡ false
