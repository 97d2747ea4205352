use Rattle.std.proofs.Common.{◌≡◌, map, drop}
use Rattle.algebra.specs.Columns.{columns_at}
use Rattle.labels.specs.Plans.{are_for, is_offered}
use Rattle.labels.proofs.offered.+offered.Given as goal

abbrev pub invariant-are_for-loop-i : goal.invariant-are_for-loop-i
invariant-are_for-loop-i l = are_for (map (is_offered l.derived.log.now.instances l.derived.log.now.log (columns_at l.derived.columns.now)) (drop l.i l.inputs)) (drop l.i l.goals)
    ≡ are_for (map (is_offered l.derived.log.now.instances l.derived.log.now.log (columns_at l.derived.columns.now)) l.inputs) l.goals
