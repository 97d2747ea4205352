use Rattle.std.proofs.Common.{◌≡◌, map, take}
use Rattle.trimming.specs.Kept.{number_in}
use Rattle.trimming.specs.Renumbered.{renumbered_plan}
use Rattle.trimming.proofs.renumbered_plans.+plans.Given as goal

abbrev pub invariant-renumbered_plans-loop-plan : goal.invariant-renumbered_plans-loop-plan
invariant-renumbered_plans-loop-plan l = l.renumbered ≡ map (renumbered_plan (number_in l.kept.numbers.items)) (take l.plan-index l.plans)
