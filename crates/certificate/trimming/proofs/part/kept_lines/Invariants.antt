use Rattle.std.proofs.Common.{◌≡◌, take}
use Rattle.std.specs.List.{flat_map}
use Rattle.trimming.specs.Kept.{number_in}
use Rattle.trimming.specs.Renumbered.{renumbered_at}
use Rattle.trimming.proofs.part.kept_lines.Given as goal

abbrev pub invariant-loop-number : goal.invariant-loop-number
invariant-loop-number l = l.renumbered ≡ flat_map (renumbered_at (number_in l.kept.numbers.items) l.log.log) (take l.number-index l.kept.lines.items)
