use Rattle.std.proofs.Common.{◌≡◌, ◌∙◌, sym, [], ◌∷◌, true, false, refl, arith, Ok}
use Rattle.std.proofs.lemmas.List.{map-append}
use Rattle.std.proofs.lemmas.Result.{err_from_is_err_and}
use Rattle.values.specs.Faults.{◌>>=◌}
use Rattle.schema.specs.Each.{each}
use Rattle.binder.specs.Ordering.{sort_key_in, without_repeats, order_in}
use Rattle.binder.proofs.KeyOrder.{is_in, among-in, keys_begin, keys_keep, keys_add, keys_end, keys_done}
use Rattle.binder.proofs.ordering.order_over.Goals as goal
use Rattle.binder.proofs.ordering.order_over.Goals.{then-not-has+in_ok-known+in_ok-push, else-not-has}

pub loop-key-init : goal.loop-key-init
loop-key-init c = record {
  so_far = rw c.new-order.ensures (keys_begin (each (sort_key_in c.args.scope.now c.args.outputs.now) c.args.keys.now));
  known = rw (c.new-known.ensures, c.new-order.ensures) refl;
}

pub returns-in_err-next : goal.returns-in_err-next
unfolding order_in
returns-in_err-next c =
    let p = err_from_is_err_and c.from_residual.result c.from_residual.ensures.1 in
    let read = sort_key_in c.args.scope.now c.args.outputs.now in
    rw (p.1, p.2) (keys_end read c.in_err-next.field-0.0 c.loop-key.order c.args.keys.now c.loop-key.key-index c.key-item.result (each read c.args.keys.now >>= λ bound. Ok (without_repeats bound)) (omega arith) c.key-item.is c.in_err-next.ensures c.loop-key.invariant.so_far)

pub loop-key-preserved : goal.loop-key-preserved
loop-key-preserved c =
    let l = c.loop-key in
    let next = c.in_ok-next.next in
    let read = sort_key_in c.args.scope.now c.args.outputs.now in
    let total = each read c.args.keys.now >>= λ bound. Ok (without_repeats bound) in
    let there : c.has.result ≡ is_in l.order next.item = rw l.invariant.known at c.has.ensures ∙ among-in l.order next.item in
    elim c.if-not-has.branch [
      | then-not-has+in_ok-known+in_ok-push w ↦
          let new : is_in l.order next.item ≡ false = sym there ∙ w.if-not-has.true in
          record {
            so_far = rw (w.order-is, w.in_ok-push.ensures.ok) (keys_add read l.order c.args.keys.now l.key-index c.key-item.result next total (omega arith) c.key-item.is c.in_ok-next.ensures new l.invariant.so_far);
            known = rw (w.known-is, w.order-is, w.in_ok-push.ensures.ok, w.in_ok-known.ensures, l.invariant.known) (sym (map-append (λ k. k.item) l.order (next ∷ [])));
          }
      | else-not-has w ↦
          let known : is_in l.order next.item ≡ true = sym there ∙ w.if-not-has.false in
          record {
            so_far = rw w.order-is (keys_keep read l.order c.args.keys.now l.key-index c.key-item.result next total (omega arith) c.key-item.is c.in_ok-next.ensures known l.invariant.so_far);
            known = rw (w.known-is, w.order-is) l.invariant.known;
          }
    ]

pub returns : goal.returns
unfolding order_in
returns c =
    let read = sort_key_in c.args.scope.now c.args.outputs.now in
    keys_done read c.loop-key.order c.args.keys.now c.loop-key.key-index (each read c.args.keys.now >>= λ bound. Ok (without_repeats bound)) (omega arith) c.loop-key.invariant.so_far
