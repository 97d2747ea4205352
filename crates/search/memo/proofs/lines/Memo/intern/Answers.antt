use Rattle.std.proofs.Common.{}
use Rattle.lean_logs.proofs.Founding.{tells_extends}
use Rattle.lean_logs.proofs.Growth.{extended_along}
use Rattle.memo.proofs.lines.Memo.intern.Goals as goal

pub returns-in_err-close-in-Ok-clause-extends : goal.returns-in_err-close-in-Ok-clause-extends
returns-in_err-close-in-Ok-clause-extends c = extended_along _ _ _ _ c.intern.ensures.extends (tells_extends _ _ _ c.close.ensures.tells)

pub returns-in_ok-close-in-Ok-clause-extends : goal.returns-in_ok-close-in-Ok-clause-extends
returns-in_ok-close-in-Ok-clause-extends c = extended_along _ _ _ _ c.intern.ensures.extends (tells_extends _ _ _ c.close.ensures.tells)
