use Rattle.std.proofs.Common.{◌∙◌, rules}
use Rattle.values.proofs.KeyOrders.{by_keys-decided}
use Rattle.physical.specs.Sorts.{key_order}
use Rattle.relations.specs.Relations.{env_of}
use Rattle.operators.proofs.sorting.keys_order.Goals as goal

pub returns : goal.returns
returns c =
    let a = env_of c.args.a.now in
    let b = env_of c.args.b.now in
    c.first_decided.ensures (λ k. key_order k a b) (λ k o called. search rules) ∙ by_keys-decided key_order c.args.keys.now a b
