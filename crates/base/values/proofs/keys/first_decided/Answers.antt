use Rattle.std.proofs.Common.{refl, sym, ◌∙◌, arith}
use Rattle.std.proofs.iter.Next.{says_at}
use Rattle.values.proofs.KeyOrders.{key-decides, key-passes}
use Rattle.values.proofs.keys.first_decided.Goals as goal

pub returns-in_default : goal.returns-in_default
returns-in_default g c = λ order calls.
    let is = calls _ _ (says_at g.F.Fn c.by_key.ensures refl) in
    key-decides order c.args.keys.now c.loop-key.key-index c.key-item.result c.by_key.result (omega arith) c.key-item.is is c.in_default.not-Equal ∙ sym (c.loop-key.invariant.1 order calls)

pub loop-key-preserved : goal.loop-key-preserved
loop-key-preserved g c = (
  c.loop-key.invariant.0,
  λ order calls.
      let is = calls _ _ (says_at g.F.Fn c.by_key.ensures refl) in
      c.loop-key.invariant.1 order calls ∙ key-passes order c.args.keys.now c.loop-key.key-index c.key-item.result c.by_key.result (omega arith) c.key-item.is is c.in-Equal.is,
)
