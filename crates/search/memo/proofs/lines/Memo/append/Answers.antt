use Rattle.std.proofs.Common.{}
use Rattle.lean_logs.proofs.Founding.{extends_of, tells_of}
use Rattle.memo.proofs.lines.Memo.append.Goals as goal

pub returns-in_err-added-clause-tells : goal.returns-in_err-added-clause-tells
returns-in_err-added-clause-tells c = λ founds. tells_of _ _ _ c.args.line c.append.result founds c.append.ensures.some c.append.ensures.none c.append.ensures.err

pub returns-in_err-enter_new-clause-extends : goal.returns-in_err-enter_new-clause-extends
returns-in_err-enter_new-clause-extends c = extends_of _ _ _ c.args.line c.append.result c.append.ensures.some c.append.ensures.none c.append.ensures.err

pub returns-in_err-enter_new-clause-tells : goal.returns-in_err-enter_new-clause-tells
returns-in_err-enter_new-clause-tells c = λ founds. tells_of _ _ _ c.args.line c.append.result founds c.append.ensures.some c.append.ensures.none c.append.ensures.err

pub returns-clause-extends : goal.returns-clause-extends
returns-clause-extends c = extends_of _ _ _ c.args.line c.append.result c.append.ensures.some c.append.ensures.none c.append.ensures.err

pub returns-clause-tells : goal.returns-clause-tells
returns-clause-tells c = λ founds. tells_of _ _ _ c.args.line c.append.result founds c.append.ensures.some c.append.ensures.none c.append.ensures.err
