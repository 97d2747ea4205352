use Rattle.std.proofs.Common.{sym, ◌∙◌}
use Rattle.certificate_text.proofs.AggregateParts.{aggregate_unnamed, aggregate_past}
use Rattle.certificate_text.proofs.aggregates.aggregate.Goals as goal

pub returns-in_default-named_aggregate : goal.returns-in_default-named_aggregate
returns-in_default-named_aggregate c = aggregate_unnamed c.args.word.now (c.in-Some.name, c.in-Some.column) (rw c.in-Some.is at c.split_once.ensures.cases) c.unwrap_or.result (rw c.in_default-named_aggregate.is at c.named_aggregate.ensures)

pub returns-else-is_some : goal.returns-else-is_some
returns-else-is_some c = aggregate_past c.args.word.now (c.in-Some.name, c.in-Some.column) (rw c.in-Some.is at c.split_once.ensures.cases) c.in_ok-read.read c.unwrap_or.result c.in-Some-named_aggregate.aggregate c.in_ok-read.ensures c.unwrap_or.ensures c.in-Some-named_aggregate.ensures (sym c.is_some.ensures ∙ c.if-is_some.false)
