use Rattle.std.proofs.Common.{arith}
use Rattle.store.proofs.Fields.{second_backslash}
use Rattle.store.proofs.field.escaped_of.Goals as goal

pub returns-then-first-eq92 : goal.returns-then-first-eq92
returns-then-first-eq92 c = second_backslash c.args.column.now c.args.rest.now (omega arith) c.if-first-eq92.true
