use Rattle.std.proofs.Common.{◌+◌, ◌*◌, max}
use Rattle.rules.specs.declared.shape.Shape.{size-Shape}
use Rattle.memo.proofs.congruent.CongruentLines.+looking.Given as goal

-- how deep a shape is, and of one depth what is over it, then its class, then its line
abbrev pub decreases-class_there : goal.decreases-class_there
decreases-class_there l = 4 * size-Shape l.shape.now + 1

abbrev pub decreases-line_there : goal.decreases-line_there
decreases-line_there l = 4 * size-Shape l.shape.now

abbrev pub decreases-line_over : goal.decreases-line_over
decreases-line_over l = 4 * size-Shape l.input.now + 2

abbrev pub decreases-line_over_both : goal.decreases-line_over_both
decreases-line_over_both l = 4 * max (size-Shape l.left.now) (size-Shape l.right.now) + 3
