use Rattle.std.proofs.Common.{arith}
use Rattle.std.proofs.lemmas.Result.{err_from_is_err_and}
use Rattle.schema.specs.Each.{each}
use Rattle.schema.proofs.Loops.{goes_on, ends, is_done}
use Rattle.schema.proofs.each.each.Goals as goal

pub returns-in_err-read_item : goal.returns-in_err-read_item
returns-in_err-read_item g c =
    let p = err_from_is_err_and c.from_residual.result c.from_residual.ensures.1 in
    rw (p.1, p.2) (ends (g.T.ReadsItem.item_in c.args.reader.now) c.in_err-read_item.field-0.0 c.loop-item.outputs c.args.items.now c.loop-item.item-index c.item-item.result (each (g.T.ReadsItem.item_in c.args.reader.now) c.args.items.now) (omega arith) c.item-item.is c.in_err-read_item.ensures c.loop-item.invariant)

pub loop-item-preserved : goal.loop-item-preserved
loop-item-preserved g c =
    rw c.in_ok-push.ensures.ok (goes_on (g.T.ReadsItem.item_in c.args.reader.now) c.loop-item.outputs c.args.items.now c.loop-item.item-index c.item-item.result c.in_ok-read_item.field-0 (each (g.T.ReadsItem.item_in c.args.reader.now) c.args.items.now) (omega arith) c.item-item.is c.in_ok-read_item.ensures c.loop-item.invariant)

pub returns : goal.returns
returns g c = is_done (g.T.ReadsItem.item_in c.args.reader.now) c.loop-item.outputs c.args.items.now c.loop-item.item-index (each (g.T.ReadsItem.item_in c.args.reader.now) c.args.items.now) (omega arith) c.loop-item.invariant
