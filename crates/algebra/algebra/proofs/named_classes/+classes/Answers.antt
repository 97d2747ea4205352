use Rattle.std.proofs.Common.{◌≡◌, ◌∷◌, append_assoc, ap, sym, subst, ◌∙◌, ◌++◌, List, ℕ, OnOk}
use Rattle.std.proofs.lemmas.List.{append-nil}
use Rattle.std.specs.List.{flat_map}
use Rattle.algebra.specs.declared.condition.Condition.{Condition}
use Rattle.algebra.specs.Conditions.{named_classes}
use Rattle.algebra.proofs.NamedClasses.{named-Compare, named-IsNull, named-Not, named-And, named-Or, named-Exists, named-In}
use Rattle.algebra.proofs.named_classes.+classes.Goals as goal

-- the classes of two parts and of those behind them, added one after another
parts-added : (d a b : Condition) (cs es : List Condition) (xs ys zs : List ℕ) → named_classes d ≡ flat_map named_classes (a ∷ b ∷ cs) → es ≡ cs → ys ≡ xs ++ named_classes a → zs ≡ ys ++ named_classes b
    → (zs ++ flat_map named_classes es) ≡ (xs ++ named_classes d)
parts-added d a b cs es xs ys zs is same first second =
    rw (second, first, same, is) (ap (λ l. l ++ flat_map named_classes cs) (append_assoc xs (named_classes a) (named_classes b)) ∙ append_assoc xs (named_classes a ++ named_classes b) (flat_map named_classes cs)
    ∙ ap (λ l. xs ++ l) (append_assoc (named_classes a) (named_classes b) (flat_map named_classes cs)))

pub add_classes-returns-in-Compare : goal.add_classes-returns-in-Compare
add_classes-returns-in-Compare t c = sym (ap (λ xs. c.args.classes.now.items ++ xs) (ap named_classes c.in-Compare.is ∙ named-Compare c.in-Compare.field-0 c.in-Compare.field-1 c.in-Compare.field-2) ∙ append-nil _)

pub add_classes-returns-in-IsNull : goal.add_classes-returns-in-IsNull
add_classes-returns-in-IsNull t c = sym (ap (λ xs. c.args.classes.now.items ++ xs) (ap named_classes c.in-IsNull.is ∙ named-IsNull c.in-IsNull.field-0) ∙ append-nil _)

pub add_classes-returns-in-Not : goal.add_classes-returns-in-Not
add_classes-returns-in-Not t c =
    let is = ap named_classes c.get.ensures ∙ sym (named-Not c.in-Not.part) ∙ sym (ap named_classes c.in-Not.is) in
    subst (λ (z : List ℕ). OnOk c.add_classes.result (c.add_classes.new.classes.items ≡ c.args.classes.now.items ++ z)) is c.add_classes.ensures

pub add_classes-returns-in_ok-push-in-Exists : goal.add_classes-returns-in_ok-push-in-Exists
add_classes-returns-in_ok-push-in-Exists t c =
    c.in_ok-push-in-Exists.ensures.items ∙ ap (λ xs. c.args.classes.now.items ++ xs) (sym (ap named_classes c.in-Exists.is ∙ named-Exists c.in-Exists.class))

pub add_classes-returns-in_ok-push-in-In : goal.add_classes-returns-in_ok-push-in-In
add_classes-returns-in_ok-push-in-In t c =
    c.in_ok-push-in-In.ensures.items ∙ ap (λ xs. c.args.classes.now.items ++ xs) (sym (ap named_classes c.in-In.is ∙ named-In c.in-In.field-0 c.in-In.class c.in-In.field-2))

pub add_classes-returns-in_ok-add_classes-in-And-2 : goal.add_classes-returns-in_ok-add_classes-in-And-2
add_classes-returns-in_ok-add_classes-in-And-2 t c =
    let is = parts-added c.args.condition.now c.in-And.a c.in-And.b c.in-And.more c.as_slice.result.now c.args.classes.now.items c.add_classes-in-And.new.classes.items c.add_classes-in-And-2.new.classes.items
    (ap named_classes c.in-And.is ∙ named-And c.in-And.a c.in-And.b c.in-And.more) c.as_slice.ensures
    (rw c.get-in-And.ensures at c.in_ok-add_classes-in-And.ensures) (rw c.get-in-And-2.ensures at c.in_ok-add_classes-in-And-2.ensures) in
    subst (λ (z : List ℕ). OnOk c.add_all_classes.result (c.add_all_classes.new.classes.items ≡ z)) is c.add_all_classes.ensures

pub add_classes-returns-in_ok-add_classes-in-Or-2 : goal.add_classes-returns-in_ok-add_classes-in-Or-2
add_classes-returns-in_ok-add_classes-in-Or-2 t c =
    let is = parts-added c.args.condition.now c.in-Or.a c.in-Or.b c.in-Or.more c.as_slice-in-Or.result.now c.args.classes.now.items c.add_classes-in-Or.new.classes.items c.add_classes-in-Or-2.new.classes.items
    (ap named_classes c.in-Or.is ∙ named-Or c.in-Or.a c.in-Or.b c.in-Or.more) c.as_slice-in-Or.ensures
    (rw c.get-in-Or.ensures at c.in_ok-add_classes-in-Or.ensures) (rw c.get-in-Or-2.ensures at c.in_ok-add_classes-in-Or-2.ensures) in
    subst (λ (z : List ℕ). OnOk c.add_all_classes-in-Or.result (c.add_all_classes-in-Or.new.classes.items ≡ z)) is c.add_all_classes-in-Or.ensures
