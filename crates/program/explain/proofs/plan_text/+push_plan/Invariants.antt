use Rattle.std.proofs.Common.{◌≡◌, ◌+◌, ◌++◌, length, take}
use Rattle.physical.specs.declared.plan.Plan.{out-Plan}
use Rattle.explain.specs.PlanTexts as spec
use Rattle.explain.proofs.PlanTexts.{nodes_below}
use Rattle.explain.proofs.plan_text.+push_plan.Given as goal

-- the text so far is the root's line and the lines of the nodes of the inputs so far, and the number that of the next
abbrev pub invariant-loop-input : goal.invariant-loop-input
invariant-loop-input l =
    let below = nodes_below (take l.input-index l.input-items) l.deeper in
    (l.text.items ≡ l.fn.text.items ++ (spec.form_text l.form l.names l.number (record { depth = l.depth; node = (out-Plan l.plan).node }) (spec.estimate_at l.figures.estimates.now l.number) (spec.measure_at l.figures.measures.now l.number) ++ spec.nodes_text l.form l.names l.figures.estimates.now l.figures.measures.now (l.number + 1) below))
    × (l.next ≡ (l.number + 1) + length below)
