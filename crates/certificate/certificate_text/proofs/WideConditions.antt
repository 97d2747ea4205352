-- Conditions with numbers of any size: within the ranges their texts are those of algebra.
use Rattle.std.proofs.Common.{◌≡◌, ℕ, zero, suc, List, [], ◌∷◌, ◌++◌, map, refl, sym, ◌∙◌, ap, arith, codes}
use Rattle.std.specs.List.{AllByRecursion}
use Rattle.algebra.specs.declared.condition.Condition.{Condition, roll-Condition, fold-roll-Condition, map-Condition}
use Rattle.algebra.specs.declared.condition.Condition.TheVariants.{Compare, IsNull, Not, And, Or, Exists, In, rolls-Compare, rolls-IsNull, rolls-Not, rolls-And, rolls-Or, rolls-Exists, rolls-In}
use Rattle.algebra.specs.declared.condition.Condition.TheOpen.{Condition-F}
use Rattle.algebra.specs.declared.condition.Term.{Term}
use Rattle.algebra.specs.ConjunctOrder.{comparison_text, condition_text, listed, text_layer}
use Rattle.certificate_text.specs.declared.conditions.Form.{Form}
use Rattle.certificate_text.specs.declared.conditions.Form.TheVariants as form
use Rattle.certificate_text.specs.Conditions.{IsReadable, terms_of}
use Rattle.certificate_text.specs.ConditionReading.{part_condition_text, IsWithin, IsShortCondition}
use Rattle.certificate_text.specs.PartTexts.{Text}
use Rattle.certificate_text.specs.Spelled.{IsReadableTerm, IsShortTerm, HasText}
use Rattle.certificate_text.proofs.DecimalNumerals.{short_decimal}
use Rattle.certificate_text.proofs.FrontConditions.{Body, opened, part-at, some_room}
use Rattle.certificate_text.proofs.TermParts.{algebras_text, short_term}

text-at : (x : Condition-F Condition) (c : Condition) → roll-Condition x ≡ c → condition_text c ≡ text_layer (map-Condition Condition (List ℕ) condition_text x)
unfolding condition_text
text-at x c is = ap condition_text (sym is) ∙ fold-roll-Condition (List ℕ) text_layer x

abbrev IsAlgebras : Condition → Type 0
IsAlgebras c = part_condition_text c ≡ condition_text c

module _ (room : ℕ) (same : (c : Condition) → IsReadable room c → IsAlgebras c) where
  each_same : (cs : List Condition) → AllByRecursion (IsReadable room) cs → map part_condition_text cs ≡ map condition_text cs
  each_same [] h = refl
  each_same (c ∷ cs) h = λ i. same c h.0 i ∷ each_same cs h.1 i

  body_same : (f : Form) (w : Text) (c : Condition) → Body IsReadableTerm room f w c [] → IsAlgebras c
  body_same form.Not w c b =
      ap part_condition_text b.2 ∙ part-at (Condition-F.Not b.0) (Not b.0) (rolls-Not b.0) ∙ ap (λ t. codes "not(" ++ (t ++ codes ")")) (same b.0 b.1)
      ∙ sym (ap condition_text b.2 ∙ text-at (Condition-F.Not b.0) (Not b.0) (rolls-Not b.0))
  body_same form.And w c b =
      let parts = each_same (b.0 ∷ b.1 ∷ b.2) (b.3, (b.4, b.5)) in
      ap part_condition_text b.6 ∙ part-at (Condition-F.And b.0 b.1 b.2) (And b.0 b.1 b.2) (rolls-And b.0 b.1 b.2) ∙ ap (λ ts. codes "and(" ++ (listed ts ++ codes ")")) parts
      ∙ sym (ap condition_text b.6 ∙ text-at (Condition-F.And b.0 b.1 b.2) (And b.0 b.1 b.2) (rolls-And b.0 b.1 b.2))
  body_same form.Or w c b =
      let parts = each_same (b.0 ∷ b.1 ∷ b.2) (b.3, (b.4, b.5)) in
      ap part_condition_text b.6 ∙ part-at (Condition-F.Or b.0 b.1 b.2) (Or b.0 b.1 b.2) (rolls-Or b.0 b.1 b.2) ∙ ap (λ ts. codes "or(" ++ (listed ts ++ codes ")")) parts
      ∙ sym (ap condition_text b.6 ∙ text-at (Condition-F.Or b.0 b.1 b.2) (Or b.0 b.1 b.2) (rolls-Or b.0 b.1 b.2))
  body_same form.IsNull w c b =
      ap part_condition_text b.2 ∙ part-at (Condition-F.IsNull b.0) (IsNull b.0) (rolls-IsNull b.0) ∙ ap (λ t. codes "null(" ++ (t ++ codes ")")) (algebras_text b.0 b.1)
      ∙ sym (ap condition_text b.2 ∙ text-at (Condition-F.IsNull b.0) (IsNull b.0) (rolls-IsNull b.0))
  body_same form.Exists w c b =
      ap part_condition_text b.2 ∙ part-at (Condition-F.Exists b.0) (Exists b.0) (rolls-Exists b.0) ∙ ap (λ t. codes "exists(" ++ (t ++ codes ")")) (sym (short_decimal b.0 b.1))
      ∙ sym (ap condition_text b.2 ∙ text-at (Condition-F.Exists b.0) (Exists b.0) (rolls-Exists b.0))
  body_same form.In w c b =
      ap part_condition_text b.6 ∙ part-at (Condition-F.In b.0 b.1 b.2) (In b.0 b.1 b.2) (rolls-In b.0 b.1 b.2)
      ∙ (λ i. codes "in(" ++ (algebras_text b.0 b.3 i ++ (codes "," ++ (sym (short_decimal b.1 b.4) i ++ (codes ",c" ++ (sym (short_decimal b.2 b.5) i ++ codes ")"))))))
      ∙ sym (ap condition_text b.6 ∙ text-at (Condition-F.In b.0 b.1 b.2) (In b.0 b.1 b.2) (rolls-In b.0 b.1 b.2))
  body_same (form.Compare op) w c b =
      ap part_condition_text b.4 ∙ part-at (Condition-F.Compare op b.0 b.1) (Compare op b.0 b.1) (rolls-Compare op b.0 b.1)
      ∙ (λ i. comparison_text op ++ (codes "(" ++ (algebras_text b.0 b.2 i ++ (codes "," ++ (algebras_text b.1 b.3 i ++ codes ")")))))
      ∙ sym (ap condition_text b.4 ∙ text-at (Condition-F.Compare op b.0 b.1) (Compare op b.0 b.1) (rolls-Compare op b.0 b.1))

algebras_same : (room : ℕ) (c : Condition) → IsReadable room c → IsAlgebras c
algebras_same zero c h = absurd (omega (arith, some_room zero c h.0))
algebras_same (suc room) c h = let opens = opened IsReadableTerm (suc room) room c [] (omega arith) h in body_same room (algebras_same room) opens.0 opens.1 c opens.3

each_short : (ts : List Term) → AllByRecursion IsReadableTerm ts → AllByRecursion IsShortTerm ts × AllByRecursion HasText ts
each_short [] h = (tt, tt)
each_short (t ∷ ts) h = let one = short_term t h.0 in let more = each_short ts h.1 in ((one.0, more.0), (one.1, more.1))

pub conditions_same : (room : ℕ) (c : Condition) → IsReadable room c → (part_condition_text c ≡ condition_text c) × IsWithin room c × IsShortCondition c
conditions_same room c h = let terms = each_short (terms_of c) h.1 in (algebras_same room c h, (h.0, terms.1), terms.0)
