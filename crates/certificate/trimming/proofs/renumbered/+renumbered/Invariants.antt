use Rattle.std.proofs.Common.{◌≡◌, map, take}
use Rattle.algebra.specs.Alike.{rooted_condition}
use Rattle.trimming.specs.Kept.{number_in}
use Rattle.trimming.proofs.renumbered.+renumbered.Given as goal

abbrev pub invariant-renumbered_conditions-loop-condition : goal.invariant-renumbered_conditions-loop-condition
invariant-renumbered_conditions-loop-condition l = l.renumbered ≡ map (rooted_condition (number_in l.kept.numbers.items)) (take l.condition-index l.conditions)
