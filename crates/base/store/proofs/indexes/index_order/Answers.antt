use Rattle.std.proofs.Common.{◌∙◌, ap, rules}
use Rattle.std.specs.declared.cmp.Ordering.{Ordering}
use Rattle.std.specs.Ordering.{ordering_then}
use Rattle.values.specs.Order.{by_keys}
use Rattle.values.proofs.KeyOrders.{by_keys-decided}
use Rattle.store.specs.Indexes.{place_order}
use Rattle.store.proofs.indexes.index_order.Goals as goal

pub returns : goal.returns
returns c =
    let rows = c.args.rows.now in
    let decided = c.first_decided-decided.ensures (λ place. place_order rows place c.args.a c.args.b) (λ place o called. search rules) ∙ by_keys-decided (place_order rows) c.args.places.now c.args.a c.args.b in
    c.then.ensures ∙ ap (λ (o : Ordering). ordering_then o c.cmp.result) decided ∙ ap (ordering_then (by_keys (place_order rows) c.args.places.now c.args.a c.args.b)) c.cmp.ensures
