use Rattle.std.proofs.Common.{◌≡◌, ◌++◌}
use Rattle.explain.specs.PlanTexts.{indentation}
use Rattle.explain.proofs.plan_text.push_indentation.Given as goal

abbrev pub invariant-loop-level : goal.invariant-loop-level
invariant-loop-level l = l.text.items ≡ l.fn.text.items ++ indentation l.level
