use Rattle.std.proofs.Common.{◌≡◌, length}
use Rattle.trimming.specs.Kept as spec
use Rattle.trimming.proofs.kept.Kept.of.Given as goal

abbrev pub invariant-loop-line : goal.invariant-loop-line
invariant-loop-line l = (length l.numbers.items ≡ l.line) × spec.IsKept l.line l.lines.items (spec.number_in l.numbers.items)
