use Rattle.std.proofs.Common.{}
use Rattle.lean_logs.proofs.Founding.{extended_told, longer_still, tells_lean, told_then, where_ok}
use Rattle.memo.proofs.lines.Memo.add.Goals as goal

pub returns-in_err-append-clause-lean : goal.returns-in_err-append-clause-lean
returns-in_err-append-clause-lean c = λ founds. tells_lean _ _ _ (c.append.ensures.tells founds)

pub returns-clause-extends : goal.returns-clause-extends
returns-clause-extends c = extended_told _ _ _ _ _ c.append.ensures.extends c.append.ensures.limit c.close.ensures.tells

pub returns-clause-lean : goal.returns-clause-lean
returns-clause-lean c = λ founds. tells_lean _ _ _ (told_then _ _ _ _ _ (c.append.ensures.tells founds) c.append.ensures.limit c.close.ensures.tells)

pub returns-clause-added : goal.returns-clause-added
returns-clause-added c = where_ok c.close.result (λ room may says. longer_still _ c.args.self.now.log c.append.new.self.log c.close.new.self.log c.close.ensures.tells (c.in_ok-append.ensures.added room may says))
