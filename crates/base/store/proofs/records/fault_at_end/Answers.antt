use Rattle.store.proofs.FrontRecords.{all_named, all_refused, all_nothing}
use Rattle.store.proofs.records.fault_at_end.Goals as goal

pub returns-in-Some : goal.returns-in-Some
returns-in-Some c = λ cs records rows few h. all_refused cs records c.args.named rows c.in-Some.refusal (rw c.in-Some.is at h)

pub returns-then-named : goal.returns-then-named
returns-then-named c = λ cs records rows few h. all_named cs records rows _ few (rw (c.in-None.is, c.if-named.true) at h)

pub returns-else-named : goal.returns-else-named
returns-else-named c = λ cs records rows few h. rw c.other_header.ensures (all_nothing cs records rows (rw (c.in-None.is, c.if-named.false) at h))
