use Rattle.std.proofs.Common.{◌≡◌, refl, ap, ◌∙◌, map, ℕ, Bool, Vec, Global, nat_eq}
use Rattle.std.proofs.lemmas.Result.{on_ok_weaker}
use Rattle.std.specs.Cmp.Lexicographic.{pointwise}
use Rattle.props.specs.Keys.{with_keys, in_order, came}
use Rattle.props.proofs.KeySets.{all-inserted, in-order-again, same-items}
use Rattle.props.proofs.keys.append.Goals as goal

abbrev same : Vec ℕ Global → Vec ℕ Global → Bool
same x y = pointwise nat_eq x.items y.items

pub returns-in-Some-table-clause-moved : goal.returns-in-Some-table-clause-moved
returns-in-Some-table-clause-moved c =
    let tables : with_keys (in_order (map (λ own. own.items) c.in-Some-table.keys.value.keys)) (in_order (map (λ own. own.items) c.in-Some.others.value.keys)) ≡ with_keys (in_order (came c.args.table.now)) (in_order (came c.args.more.now)) =
    rw (c.in-Some-table.is, c.in-Some.is) refl in
    let given = rw (c.deref_mut-in-Some-table.ensures.value, c.deref_mut.ensures.value) at c.append.ensures.keys in
    on_ok_weaker c.append.result
    (λ moved. ap (λ keys. in_order (map (λ own. own.items) keys)) moved
    ∙ all-inserted (λ own. own.items) same (λ x y. same-items x.items y.items) c.in-Some-table.keys.value.keys c.in-Some.others.value.keys ∙ tables)
    given

pub returns-in-None-clause-moved : goal.returns-in-None-clause-moved
returns-in-None-clause-moved c = rw (c.swap.ensures.x_after, c.in-None.is, c.in-Some.is) (in-order-again (map (λ own. own.items) c.in-Some.others.value.keys))
