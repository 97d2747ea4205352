use Rattle.std.proofs.Common.{◌==◌, refl, ap, sym, ◌∙◌, ◌+◌, ◌++◌, drop}
use Rattle.std.specs.List.{list_any}
use Rattle.certificate.specs.QueryOrders as spec
use Rattle.certificate.proofs.FirstKeys.{first_more, first_past, none-met, unmet}
use Rattle.certificate.proofs.order_by.first_keys.Goals.{then-not-has_key_by+in_ok-push, else-not-has_key_by}
use Rattle.certificate.proofs.order_by.first_keys.Goals as goal

pub loop-key-init : goal.loop-key-init
loop-key-init c = ap (λ l. l ++ unmet l (spec.first_keys c.args.keys.now)) c.new-first.ensures.items ∙ none-met (spec.first_keys c.args.keys.now)

pub loop-key-preserved : goal.loop-key-preserved
loop-key-preserved c =
    let keys = c.args.keys.now in
    let found = c.loop-key.first.items in
    let met = ap (list_any _) (sym c.as_slice.ensures.value) ∙ sym c.has_key_by.ensures in
    elim c.if-not-has_key_by.branch [
      | then-not-has_key_by+in_ok-push w ↦
          first_more keys c.loop-key.key-index _ c.loop-key-test.true found _ c.loop-key.invariant c.if-not-has_key_by.first.items (met ∙ w.if-not-has_key_by.true) (ap (λ o. o.items) w.first-is ∙ w.in_ok-push.ensures.items)
      | else-not-has_key_by w ↦
          ap (λ o. o.items ++ unmet o.items (spec.first_keys (drop (c.loop-key.key-index + 1) keys))) w.first-is
          ∙ first_past keys c.loop-key.key-index _ c.loop-key-test.true found _ c.loop-key.invariant (met ∙ w.if-not-has_key_by.false)
    ]
