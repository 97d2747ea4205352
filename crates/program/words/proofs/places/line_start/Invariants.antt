use Rattle.std.proofs.Common.{◌≢◌, ◌≤◌, drop, length}
use Rattle.std.specs.List.{All}
use Rattle.words.proofs.places.line_start.Given as goal

abbrev pub invariant-loop-start : goal.invariant-loop-start
invariant-loop-start l = (l.start ≤ length l.text) × All (λ byte. byte ≢ 10) (drop l.start l.text)

abbrev pub decreases-loop-start : goal.decreases-loop-start
decreases-loop-start l = l.start
