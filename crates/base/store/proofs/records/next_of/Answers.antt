use Rattle.store.proofs.Steps.{next_remains}
use Rattle.store.proofs.records.next_of.Goals as goal

pub returns-in-Ok : goal.returns-in-Ok
returns-in-Ok g c = λ rest h.
    let e = c.in-Ok.ensures in
    next_remains g.R.Read.remaining c.args.reader.now c.read_byte_record.new.self c.in-Ok.found _ rest h (e.reads h.trim h.ready) (e.ready h.trim) e.flexible
