use Rattle.std.proofs.Common.{Ok, Err, ◌<◌, ◌+◌, ◌^◌, arith, rules}
use Rattle.store.specs.declared.fault.TableCause.TheVariants.{Repeated}
use Rattle.store.proofs.TableAnswers.{is_reported}
use Rattle.store.proofs.Loads.{repeat_below, repeat_reported, fault_reported, table_reported}
use Rattle.store.proofs.database.table_of.Goals as goal

pub overflow_add-result-in-Some : goal.overflow_add-result-in-Some
overflow_add-result-in-Some c =
    let found = rw (c.in-Some.is, c.as_slice.ensures) at c.in-Ok.ensures in
    let low = found.within in
    let below = repeat_below c.args.parsed.rows c.in-Some.repeat.row c.in-Some.repeat.earlier c.args.entry.now.unique found.there in
    let few = c.requires in
    let fits : c.in-Some.repeat.earlier + 1 < 2 ^ 64 = omega arith in
    search rules

pub returns-in-Some : goal.returns-in-Some
returns-in-Some c = λ records file.
    let found = rw (c.in-Some.is, c.as_slice.ensures) at c.in-Ok.ensures in
    is_reported c.args.entry.now records (Err (record { row = c.in-Some.repeat.row + 1; cause = Repeated (c.in-Some.repeat.earlier + 1) })) (repeat_reported c.args.entry.now records c.args.parsed c.in-Some.repeat file found)

pub returns-in-Some-fault : goal.returns-in-Some-fault
returns-in-Some-fault c = λ records file.
    let unique = rw (c.in_default-found.is, c.as_slice.ensures) at c.in-Ok.ensures in
    is_reported c.args.entry.now records (Err c.in-Some-fault.refusal) (fault_reported c.args.entry.now records c.args.parsed c.in-Some-fault.refusal file c.in-Some-fault.is unique)

pub returns-in-None : goal.returns-in-None
returns-in-None c = λ records file.
    let unique = rw (c.in_default-found.is, c.as_slice.ensures) at c.in-Ok.ensures in
    is_reported c.args.entry.now records (Ok c.args.parsed.rows) (table_reported c.args.entry.now records c.args.parsed file c.in-None.is unique)
