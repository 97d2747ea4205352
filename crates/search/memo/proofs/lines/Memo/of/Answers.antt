use Rattle.std.proofs.Common.{}
use Rattle.lean_logs.proofs.Founding.{tells_lean}
use Rattle.memo.proofs.lines.Memo.of.Goals as goal

pub returns-clause-lean : goal.returns-clause-lean
returns-clause-lean c = tells_lean _ _ _ c.close.ensures.tells
