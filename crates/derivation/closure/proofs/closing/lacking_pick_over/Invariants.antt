use Rattle.std.proofs.Common.{ℕ, ◌<◌}
use Rattle.rules.specs.Patterns.{picked_subquery}
use Rattle.closure.specs.Lines.{HasPairs}
use Rattle.closure.proofs.closing.lacking_pick_over.Given as goal

abbrev pub invariant-loop-pick : goal.invariant-loop-pick
invariant-loop-pick l = (pick : ℕ) → pick < l.pick → HasPairs l.log.instances l.log.log l.rule pick l.top (picked_subquery l.expr pick)
