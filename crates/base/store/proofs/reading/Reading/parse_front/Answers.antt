use Rattle.store.proofs.FrontRecords.{reads_cut}
use Rattle.store.proofs.reading.Reading.parse_front.Goals as goal

pub returns : goal.returns
returns c = record {
  fits = c.in_ok-take.ensures.fits;
  read = λ before h.
      rw c.drop_front.ensures
      (reads_cut c.args.columns.now before c.args.self.now.rest.items c.in-Some.cut c.args.self.now.parsing.named c.take.new.self.named c.args.self.now.parsing.rows.rows c.take.new.self.rows.rows c.take.new.self.fault
      (rw c.requires.open at h) (rw c.as_slice.ensures.value at c.in-Some.ensures) (λ records b. rw c.deref.ensures.value at c.in_ok-take.ensures.read records b));
}
