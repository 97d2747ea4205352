use Rattle.explain.proofs.PlanTexts.{indentation-none, indentation-more}
use Rattle.explain.proofs.plan_text.push_indentation.Goals as goal

pub loop-level-init : goal.loop-level-init
loop-level-init c = indentation-none c.args.text.now.items

pub loop-level-preserved : goal.loop-level-preserved
loop-level-preserved c = indentation-more _ _ _ _ c.loop-level.invariant c.in_ok-push_text.ensures
