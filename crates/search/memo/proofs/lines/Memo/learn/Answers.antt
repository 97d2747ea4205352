use Rattle.std.proofs.Common.{refl}
use Rattle.lean_logs.proofs.Founding.{tells_lean, told_then}
use Rattle.lean_logs.proofs.Growth.{lean_at_first}
use Rattle.memo.proofs.lines.Memo.learn.Goals as goal

pub returns-then-knows-clause-lean : goal.returns-then-knows-clause-lean
returns-then-knows-clause-lean c = lean_at_first _ _

pub returns-in_err-added-clause-lean : goal.returns-in_err-added-clause-lean
returns-in_err-added-clause-lean c = tells_lean _ _ _ (c.append.ensures.tells refl)

pub returns-in_err-close-clause-lean : goal.returns-in_err-close-clause-lean
returns-in_err-close-clause-lean c = tells_lean _ _ _ (told_then _ _ _ _ _ (c.append.ensures.tells refl) c.append.ensures.limit c.close.ensures.tells)

pub returns-clause-lean : goal.returns-clause-lean
returns-clause-lean c = tells_lean _ _ _ (told_then _ _ _ _ _ (c.append.ensures.tells refl) c.append.ensures.limit c.close.ensures.tells)
