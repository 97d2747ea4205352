use Rattle.std.proofs.Common.{◌≡◌, append_assoc, ap, sym, subst, ◌∙◌, ◌∷◌, [], ◌++◌, List, OnOk}
use Rattle.std.specs.List.{flat_map}
use Rattle.algebra.specs.declared.condition.Condition.{Condition}
use Rattle.algebra.specs.ConjunctOrder.{parts_of}
use Rattle.algebra.proofs.ConjunctLists.{flat-And, one-part}
use Rattle.algebra.proofs.conjunct_order.+parts.Goals as goal

-- the parts of two conditions and of those behind them, added one after another
parts-added : (d a b : Condition) (cs es : List Condition) (xs ys zs : List Condition) → parts_of d ≡ flat_map parts_of (a ∷ b ∷ cs) → es ≡ cs → ys ≡ xs ++ parts_of a → zs ≡ ys ++ parts_of b
    → (zs ++ flat_map parts_of es) ≡ (xs ++ parts_of d)
parts-added d a b cs es xs ys zs is same first second =
    rw (second, first, same, is) (ap (λ l. l ++ flat_map parts_of cs) (append_assoc xs (parts_of a) (parts_of b)) ∙ append_assoc xs (parts_of a ++ parts_of b) (flat_map parts_of cs)
    ∙ ap (λ l. xs ++ l) (append_assoc (parts_of a) (parts_of b) (flat_map parts_of cs)))

pub add_parts-returns-in_ok-add_parts-in-And-2 : goal.add_parts-returns-in_ok-add_parts-in-And-2
add_parts-returns-in_ok-add_parts-in-And-2 t c =
    let is = parts-added c.args.condition.now c.in-And.a c.in-And.b c.in-And.more c.as_slice.result.now c.args.parts.now.items c.add_parts.new.parts.items c.add_parts-in-And.new.parts.items
    (ap parts_of c.in-And.is ∙ flat-And c.in-And.a c.in-And.b c.in-And.more) c.as_slice.ensures
    (rw c.get.ensures at c.in_ok-add_parts-in-And.ensures) (rw c.get-in-And.ensures at c.in_ok-add_parts-in-And-2.ensures) in
    subst (λ (z : List Condition). OnOk c.add_all_parts.result (c.add_all_parts.new.parts.items ≡ z)) is c.add_all_parts.ensures

pub add_parts-returns-in_ok-push-in_default : goal.add_parts-returns-in_ok-push-in_default
add_parts-returns-in_ok-push-in_default t c =
    c.in_ok-push-in_default.ensures.items ∙ ap (λ (d : Condition). c.args.parts.now.items ++ d ∷ []) c.in_ok-copy-in_default.ensures
    ∙ ap (λ (l : List Condition). c.args.parts.now.items ++ l) (sym (one-part c.args.condition.now c.in_default.not-And))
