use Rattle.std.proofs.Common.{◌+◌, max}
use Rattle.rules.specs.declared.shape.Shape.{size-Shape}
use Rattle.lean_logs.proofs.given_results.+counting.Given as goal

-- how deep a shape is, and of one depth an input before what is over it
abbrev pub decreases-room_behind : goal.decreases-room_behind
decreases-room_behind l = size-Shape l.shape.now + size-Shape l.shape.now

abbrev pub decreases-room_over : goal.decreases-room_over
decreases-room_over l = size-Shape l.input.now + size-Shape l.input.now + 1

abbrev pub decreases-room_over_both : goal.decreases-room_over_both
decreases-room_over_both l = max (size-Shape l.first.now) (size-Shape l.second.now) + max (size-Shape l.first.now) (size-Shape l.second.now) + 1
