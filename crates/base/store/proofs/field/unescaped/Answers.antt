use Rattle.std.proofs.Common.{arith}
use Rattle.store.proofs.Fields.{as_it_is, not_escaped}
use Rattle.store.proofs.field.unescaped.Goals as goal

pub returns-else-first-eq92 : goal.returns-else-first-eq92
returns-else-first-eq92 c = as_it_is c.args.column.now c.args.field.now (not_escaped c.args.field.now (omega arith) c.if-first-eq92.false)
