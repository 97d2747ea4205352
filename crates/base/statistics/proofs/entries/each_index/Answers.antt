use Rattle.std.proofs.Common.{arith}
use Rattle.std.proofs.lemmas.Result.{err_from_is_err_and}
use Rattle.serde_json.specs.View.{view}
use Rattle.schema.specs.Each.{each}
use Rattle.schema.proofs.Loops.{goes_on, ends, is_done}
use Rattle.statistics.specs.Entries.{index_in}
use Rattle.statistics.proofs.entries.each_index.Goals as goal

pub returns-in_err-index_of : goal.returns-in_err-index_of
returns-in_err-index_of c =
    let p = err_from_is_err_and c.from_residual.result c.from_residual.ensures.1 in
    rw (p.1, p.2) (ends (λ v. index_in (view v)) c.in_err-index_of.field-0.0 c.loop-item.indexes c.args.items.now c.loop-item.item-index c.item-item.result (each (λ v. index_in (view v)) c.args.items.now) (omega arith) c.item-item.is c.in_err-index_of.ensures c.loop-item.invariant)

pub loop-item-preserved : goal.loop-item-preserved
loop-item-preserved c =
    rw c.in_ok-push.ensures.ok (goes_on (λ v. index_in (view v)) c.loop-item.indexes c.args.items.now c.loop-item.item-index c.item-item.result c.in_ok-index_of.field-0 (each (λ v. index_in (view v)) c.args.items.now) (omega arith) c.item-item.is c.in_ok-index_of.ensures c.loop-item.invariant)

pub returns : goal.returns
returns c = is_done (λ v. index_in (view v)) c.loop-item.indexes c.args.items.now c.loop-item.item-index (each (λ v. index_in (view v)) c.args.items.now) (omega arith) c.loop-item.invariant
