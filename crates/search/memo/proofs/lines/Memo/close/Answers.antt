use Rattle.std.proofs.Common.{refl, ◌∙◌}
use Rattle.lean_logs.proofs.Founding.{tells_at_first, told_then}
use Rattle.memo.proofs.lines.Memo.close.Goals as goal

pub returns-in_err-enter_new-clause-tells : goal.returns-in_err-enter_new-clause-tells
returns-in_err-enter_new-clause-tells c = tells_at_first _ _

pub loop-init : goal.loop-init
loop-init c = (tells_at_first _ _, refl)

pub loop-preserved : goal.loop-preserved
loop-preserved c = (told_then _ _ _ _ _ c.loop.invariant.0 c.loop.invariant.1 (c.append.ensures.tells refl), c.append.ensures.limit ∙ c.loop.invariant.1)

pub returns-in_err-append-clause-tells : goal.returns-in_err-append-clause-tells
returns-in_err-append-clause-tells c = told_then _ _ _ _ _ c.loop.invariant.0 c.loop.invariant.1 (c.append.ensures.tells refl)
