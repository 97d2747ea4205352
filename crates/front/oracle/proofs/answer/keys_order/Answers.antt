use Rattle.std.proofs.Common.{◌∙◌, rules}
use Rattle.values.proofs.KeyOrders.{by_keys-decided}
use Rattle.query.specs.Answer.{key_order}
use Rattle.oracle.proofs.answer.keys_order.Goals as goal

pub returns : goal.returns
returns c =
    c.first_decided.ensures (λ k. key_order k c.args.a.now c.args.b.now) (λ k o called. search rules) ∙ by_keys-decided key_order c.args.keys.now c.args.a.now c.args.b.now
