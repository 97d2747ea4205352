use Rattle.std.proofs.Common.{◌≡◌, ◌++◌, drop}
use Rattle.planner.proofs.certifying.+plans.Given as goal

abbrev pub invariant-copied_plans-loop-plan : goal.invariant-copied_plans-loop-plan
invariant-copied_plans-loop-plan l = l.copies ++ drop l.plan-index l.plans ≡ l.plans
