use Rattle.std.proofs.Common.{◌+◌, max}
use Rattle.rules.specs.declared.shape.Shape.{size-Shape}
use Rattle.lean_logs.proofs.lean_log.LeanLog.+spelling.Given as goal

-- how deep a shape is, and of one depth its class before its expression
abbrev pub decreases-place : goal.decreases-place
decreases-place l = size-Shape l.shape.now + size-Shape l.shape.now + size-Shape l.shape.now + 1

abbrev pub decreases-spell : goal.decreases-spell
decreases-spell l = size-Shape l.shape.now + size-Shape l.shape.now + size-Shape l.shape.now

abbrev pub decreases-spell_one : goal.decreases-spell_one
decreases-spell_one l = size-Shape l.input.now + size-Shape l.input.now + size-Shape l.input.now + 2

abbrev pub decreases-spell_two : goal.decreases-spell_two
decreases-spell_two l = max (size-Shape l.left.now) (size-Shape l.right.now) + max (size-Shape l.left.now) (size-Shape l.right.now) + max (size-Shape l.left.now) (size-Shape l.right.now) + 2
