use Rattle.std.proofs.Common.{◌≡◌, ℕ, ◌<◌, true, [], ◌∷◌}
use Rattle.closure.specs.Lines.{has_result}
use Rattle.closure.proofs.closing.lacking_pick.Given as goal

abbrev pub invariant-loop-pick : goal.invariant-loop-pick
invariant-loop-pick l = (pick : ℕ) → pick < l.pick → has_result l.log.instances l.log.log l.rule pick (l.top ∷ []) ≡ true
