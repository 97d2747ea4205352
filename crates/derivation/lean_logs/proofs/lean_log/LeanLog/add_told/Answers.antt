use Rattle.lean_logs.proofs.Founding.{extends_of}
use Rattle.lean_logs.proofs.Results.{told_of}
use Rattle.lean_logs.proofs.lean_log.LeanLog.add_told.Goals as goal

pub returns-clause-extends : goal.returns-clause-extends
returns-clause-extends c = extends_of _ _ _ c.args.line c.append.result c.append.ensures.some c.append.ensures.none c.append.ensures.err

pub returns-clause-told : goal.returns-clause-told
returns-clause-told c = told_of c.args.limit c.args.self.now c.append.new.self c.args.line c.append.result c.requires.stands c.requires.says c.requires.founds c.append.ensures.some c.append.ensures.none c.append.ensures.refused
