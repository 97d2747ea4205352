use Rattle.std.proofs.Common.{refl, ◌∙◌, subst}
use Rattle.lean_logs.specs.Growth.{Extends}
use Rattle.lean_logs.proofs.Growth.{extended_along}
use Rattle.explore.proofs.Along.{grown_at_first, grown_along}
use Rattle.explore.proofs.exploring.pass.Goals as goal

pub loop-init : goal.loop-init
loop-init c = (grown_at_first _ _, refl)

pub loop-preserved : goal.loop-preserved
loop-preserved c = (grown_along _ _ _ _ _ c.loop.invariant.0 c.loop.invariant.1 c.apply.ensures.extends c.in_ok-apply.ensures.lean, c.apply.ensures.limit ∙ c.loop.invariant.1)

pub returns-in_err-apply-clause-extends : goal.returns-in_err-apply-clause-extends
returns-in_err-apply-clause-extends c = extended_along _ _ _ _ c.loop.invariant.0.extends (subst (λ n. Extends n c.loop.memo.log c.apply.new.memo.log) c.loop.invariant.1 c.apply.ensures.extends)
