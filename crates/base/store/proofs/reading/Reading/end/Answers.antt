use Rattle.std.proofs.Common.{sym, ◌∙◌}
use Rattle.store.specs.Tables.{records_of}
use Rattle.store.proofs.FrontRecords.{no_fault, reads_last, reads_done}
use Rattle.store.proofs.reading.Reading.end.Goals as goal

pub returns-then-has_fault : goal.returns-then-has_fault
returns-then-has_fault c = λ bytes h.
    c.end.ensures c.args.columns.now (records_of bytes) c.requires.fits.few
    (reads_done c.args.columns.now bytes c.args.self.rest.items c.args.self.parsing.named c.args.self.parsing.rows.rows c.args.self.parsing.fault (sym c.has_fault.ensures ∙ c.if-has_fault.true) h)

pub returns : goal.returns
returns c = λ bytes h.
    let none = no_fault c.args.self.parsing.fault (sym c.has_fault.ensures ∙ c.if-has_fault.false) in
    c.end-2.ensures c.args.columns.now (records_of bytes) c.in_ok-take.ensures.fits.few
    (reads_last c.args.columns.now bytes c.args.self.rest.items c.args.self.parsing.named c.take.new.self.named c.args.self.parsing.rows.rows c.take.new.self.rows.rows c.take.new.self.fault
    (rw none at h) (λ records b. rw c.as_slice.ensures.value at c.in_ok-take.ensures.read records b))
