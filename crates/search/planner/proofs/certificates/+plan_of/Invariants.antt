use Rattle.std.proofs.Common.{take}
use Rattle.planner.proofs.ClassPlans.{ArePlansOf}
use Rattle.planner.proofs.certificates.+plan_of.Given as goal

abbrev pub decreases-plan_of : goal.decreases-plan_of
decreases-plan_of l = l.class

abbrev pub invariant-loop-input : goal.invariant-loop-input
invariant-loop-input l = ArePlansOf l.frame (take l.input-index l.input-items) l.inputs
