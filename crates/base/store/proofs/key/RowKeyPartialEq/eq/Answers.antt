use Rattle.std.proofs.Common.{◌∙◌, sym, arith}
use Rattle.store.proofs.RowKeys.{keys_differ, keys_go_on, keys_same}
use Rattle.store.proofs.key.RowKeyPartialEq.eq.Goals as goal

pub returns-then-ne : goal.returns-then-ne
returns-then-ne c = keys_differ c.args.self.now c.args.other.now c.loop-number.number c.cell.result c.cell-in-loop-number.result c.cell.ensures c.cell-in-loop-number.ensures (sym c.ne.ensures ∙ c.if-ne.true)

pub loop-number-preserved : goal.loop-number-preserved
loop-number-preserved c = keys_go_on c.args.self.now c.args.other.now c.loop-number.number c.cell.result c.cell-in-loop-number.result (omega arith) (omega arith) c.cell.ensures c.cell-in-loop-number.ensures (sym c.ne.ensures ∙ c.if-ne.false) c.loop-number.invariant

pub returns : goal.returns
returns c = keys_same c.args.self.now c.args.other.now c.loop-number.number (omega arith) (omega arith) c.loop-number.invariant
