use Rattle.std.proofs.Common.{◌≡◌, ℕ, ◌+◌, ◌<◌, ◌≤◌, List, ◌∷◌, ◌++◌, length, map, flat_map, sum}
use Rattle.std.specs.List.{AllByRecursion}
use Rattle.physical.specs.declared.plan.Plan.{Plan}
use Rattle.certificate_text.specs.CertificateText.{Text, plan_text, node_count}
use Rattle.certificate_text.specs.Limits.{most_deep, most_nodes}
use Rattle.certificate_read.specs.TextReading.{IsReadablePlan, IsWanted, IsBalanced}
use Rattle.certificate_read.proofs.PlanFaults.{InputsSoFar}
use Rattle.certificate_read.proofs.TextLists.{SoFar}
use Rattle.certificate_read.proofs.reading.+plans.Given as goal

abbrev pub decreases-inputs_within : goal.decreases-inputs_within
decreases-inputs_within l = l.room + l.room

abbrev pub decreases-plan_within : goal.decreases-plan_within
decreases-plan_within l = l.room + l.room + 1

-- the plans so far are read, and those that are left are still wanted
abbrev pub invariant-inputs_within-loop-done : goal.invariant-inputs_within-loop-done
invariant-inputs_within-loop-done l =
    ((ps : List Plan) (k w : ℕ) (rest : Text) → AllByRecursion (IsReadablePlan l.below) ps → length ps ≡ l.count
    → IsWanted (sum (map node_count ps) + k) (w + length ps) l.initial.wanted → IsBalanced k w → l.initial.text.left.now ≡ flat_map plan_text ps ++ rest
    → (so_far : SoFar plan_text (IsReadablePlan l.below) ps rest l.text.left.now l.inputs l._done) × IsWanted (sum (map node_count so_far.0) + k) (w + length so_far.0) l.wanted)
    × ((w : ℕ) (ws : List ℕ) → l.initial.wanted.inputs ≡ sum (l.count ∷ w ∷ ws) → l.initial.wanted.inputs ≤ l.initial.wanted.counted → l.initial.wanted.counted ≤ most_nodes → 0 < l.room → l.room + length (w ∷ ws) ≡ most_deep + 1
    → InputsSoFar l.below l.count w ws l.initial.wanted l.wanted l.initial.text l.text l.inputs l._done)
