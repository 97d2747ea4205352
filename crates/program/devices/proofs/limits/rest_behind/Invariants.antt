use Rattle.std.proofs.Common.{length}
use Rattle.std.specs.Str.Lines.{lines}
use Rattle.devices.specs.Limits.{NoneBefore}
use Rattle.devices.proofs.limits.rest_behind.Given as goal

abbrev pub invariant-loop-line : goal.invariant-loop-line
invariant-loop-line l = NoneBefore l.words (lines l.text) (length l.yielded)
