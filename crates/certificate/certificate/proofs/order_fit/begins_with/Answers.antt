use Rattle.std.proofs.Common.{◌≡◌, ◌∙◌, ◌<◌, inl, inr, false, ap, subst, List, take, length, arith}
use Rattle.std.specs.Coded.{coded_list}
use Rattle.std.proofs.lemmas.List.{length-take}
use Rattle.algebra.proofs.Same.{tested}
use Rattle.physical.specs.declared.plan.OrderKey.{OrderKey}
use Rattle.physical.specs.contracts.plan.OrderKey as order_key
use Rattle.physical.specs.RequiredOrders.{same_order}
use Rattle.certificate.proofs.order_fit.begins_with.Goals as goal

-- an order that is too short does not begin with the keys
too_short : (order wanted : List OrderKey) → length order < length wanted → false ≡ same_order (take (length wanted) order) wanted
unfolding same_order
too_short order wanted lt = tested (coded_list order_key.the_row.coded) false (take (length wanted) order) wanted
    (λ e. cc e, λ e. let same : length (take (length wanted) order) ≡ length wanted = ap length e in let cut = length-take (length wanted) order in absurd (omega (arith, lt, same, cut)))

pub returns-in-Some : goal.returns-in-Some
unfolding same_order
returns-in-Some c =
    let front : c.in-Some.front.now ≡ take (length c.args.wanted.now) c.args.order.now = c.in-Some.ensures.lookup.0.2 ∙ ap (λ n. take n c.args.order.now) (omega arith) in
    subst (λ (xs : List OrderKey). c.are_same.result ≡ same_order xs c.args.wanted.now) front (tested (coded_list order_key.the_row.coded) c.are_same.result c.in-Some.front.now c.args.wanted.now c.are_same.ensures)

pub returns-in-None : goal.returns-in-None
returns-in-None c = elim c.in-None.ensures.lookup.0 [
  | inl none ↦ absurd (omega (arith, none))
  | inr short ↦ too_short c.args.order.now c.args.wanted.now (omega (arith, short))
]
