use Rattle.std.proofs.Common.{refl, ◌∙◌, subst}
use Rattle.lean_logs.specs.Growth.{Extends}
use Rattle.lean_logs.proofs.Growth.{extended_along}
use Rattle.explore.proofs.Along.{grown_at_first, grown_along}
use Rattle.explore.proofs.learning.pass.Goals as goal

pub loop-line-init : goal.loop-line-init
loop-line-init c = (grown_at_first _ _, refl)

pub loop-line-preserved : goal.loop-line-preserved
loop-line-preserved c = (grown_along _ _ _ _ _ c.loop-line.invariant.0 c.loop-line.invariant.1 c.look_at.ensures.extends c.in_ok-look_at.ensures.lean, c.look_at.ensures.limit ∙ c.loop-line.invariant.1)

pub returns-in_err-look_at-clause-extends : goal.returns-in_err-look_at-clause-extends
returns-in_err-look_at-clause-extends c = extended_along _ _ _ _ c.loop-line.invariant.0.extends (subst (λ n. Extends n c.loop-line.memo.log c.look_at.new.memo.log) c.loop-line.invariant.1 c.look_at.ensures.extends)
