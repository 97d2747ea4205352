use Rattle.std.proofs.Common.{inl, refl}
use Rattle.certificate_read.proofs.TextCuts.{line_cut_off, line_missing, line_not_missing, line_read}
use Rattle.certificate_read.proofs.text_lines.TextLines.bytes.Goals as goal

pub returns-in-Some-clause-complete : goal.returns-in-Some-clause-complete
returns-in-Some-clause-complete c = λ line rest free e. line_cut_off line rest c.args.self.now.left.now free e c.first_end.result c.in-Some.end c.first_end.ensures c.in-Some.is

pub returns-in-None-clause-complete : goal.returns-in-None-clause-complete
returns-in-None-clause-complete c = λ line rest free e. absurd (line_not_missing line rest c.args.self.now.left.now free e c.first_end.result c.first_end.ensures c.in-None.is)

pub returns-in-Some-clause-exact : goal.returns-in-Some-clause-exact
returns-in-Some-clause-exact c = let cut = line_read c.args.self.now.left.now c.first_end.result c.first_end.ensures c.in-Some.end c.in-Some.is in ((cut.0, c.saturating_add-self.ensures), cut.1)

pub returns-in-None-clause-exact : goal.returns-in-None-clause-exact
returns-in-None-clause-exact c = rw c.refused.ensures (c.saturating_add-self.ensures, inl (line_missing c.args.self.now.left.now c.first_end.result c.first_end.ensures c.in-None.is, refl))
