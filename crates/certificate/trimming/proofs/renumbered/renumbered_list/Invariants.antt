use Rattle.std.proofs.Common.{◌≡◌, map, take}
use Rattle.trimming.specs.Kept.{number_in}
use Rattle.trimming.proofs.renumbered.renumbered_list.Given as goal

abbrev pub invariant-loop-line : goal.invariant-loop-line
invariant-loop-line l = l.numbers.items ≡ map (number_in l.kept.numbers.items) (take l.line-index l.lines)
