use Rattle.std.proofs.Common.{refl, ap, ◌∙◌, ◌+◌, ◌++◌, drop, length}
use Rattle.std.proofs.lemmas.Option.{slice_get_read, slice_get_past}
use Rattle.certificate.specs.QueryOrders as spec
use Rattle.certificate.proofs.OrderKeys.{ordered_more, ordered_past}
use Rattle.certificate.proofs.order_by.ordered_columns.Goals.{in-Some+in_ok-push, in_default}
use Rattle.certificate.proofs.order_by.ordered_columns.Goals as goal

pub loop-key-preserved : goal.loop-key-preserved
loop-key-preserved c =
    let numbers = c.args.numbers.now in
    elim c.match-get.branch [
      | in-Some+in_ok-push w ↦
          let column = w.in-Some.column.now in
          ordered_more numbers c.args.keys.now c.loop-key.key-index _ c.loop-key-test.true c.loop-key.order.items _ c.loop-key.invariant column c.match-get.order.items
          (slice_get_read numbers (length numbers) _ column refl w.in-Some.ensures.lookup.3.0 (w.in-Some.ensures.lookup.3.1 column)) (ap (λ o. o.items) w.order-is ∙ w.in_ok-push.ensures.items)
      | in_default w ↦
          ap (λ o. o.items ++ spec.ordered_columns numbers (drop (c.loop-key.key-index + 1) c.args.keys.now)) w.order-is
          ∙ ordered_past numbers c.args.keys.now c.loop-key.key-index _ c.loop-key-test.true c.loop-key.order.items _ c.loop-key.invariant (slice_get_past numbers _ w.in_default.ensures.lookup.3)
    ]
