use Rattle.std.proofs.Common.{◌++◌, sym, ◌∙◌}
use Rattle.store.proofs.FrontRecords.{reads_more, reads_past}
use Rattle.store.proofs.reading.Reading.take.Goals as goal

pub returns-then-has_fault-clause-read : goal.returns-then-has_fault-clause-read
returns-then-has_fault-clause-read c = λ before h.
    reads_past c.args.columns.now before c.args.self.now.rest.items c.args.bytes.now c.args.self.now.parsing.named c.args.self.now.parsing.rows.rows c.args.self.now.parsing.fault (sym c.has_fault.ensures ∙ c.if-has_fault.true) h

pub returns-then-len-self-clause-read : goal.returns-then-len-self-clause-read
returns-then-len-self-clause-read c = λ before h.
    rw c.in_ok-extend_from_slice.ensures.items (reads_more c.args.columns.now before c.args.self.now.rest.items c.args.bytes.now c.args.self.now.parsing.named c.args.self.now.parsing.rows.rows c.args.self.now.parsing.fault h)

pub returns-clause-read : goal.returns-clause-read
returns-clause-read c = λ before h.
    c.in_ok-parse_front.ensures.read (before ++ c.args.bytes.now)
    (rw c.in_ok-extend_from_slice.ensures.items (reads_more c.args.columns.now before c.args.self.now.rest.items c.args.bytes.now c.args.self.now.parsing.named c.args.self.now.parsing.rows.rows c.args.self.now.parsing.fault h))
