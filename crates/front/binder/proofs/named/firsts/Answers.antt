use Rattle.std.proofs.Common.{◌≡◌, ◌-◌, ◌+◌, ◌∙◌, sym, arith}
use Rattle.binder.specs.Ordering.{same_item}
use Rattle.binder.proofs.Naming.{firsts-step, position-first}
use Rattle.binder.proofs.named.firsts.Goals as goal

pub loop-i-preserved : goal.loop-i-preserved
loop-i-preserved c =
    let l = c.loop-i in
    let next : (l.i - 1) + 1 ≡ l.i = omega arith in
    firsts-step l.firsts c.insert.new.self c.args.outputs.now (l.i - 1) c.index-outputs-i.result (omega arith) c.index-outputs-i.is (rw (c.identity_of.ensures, ← c.index-outputs-i.is) at c.in_ok-insert.ensures.updates) (λ q. rw next (l.invariant q))

pub returns : goal.returns
returns c = λ q.
    let done : c.loop-i.i ≡ 0 = omega arith in
    rw done at (c.loop-i.invariant q) ∙ sym (position-first (λ o. same_item o.item q) c.args.outputs.now)
