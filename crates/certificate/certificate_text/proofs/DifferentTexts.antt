-- Different conditions have different texts, so conjuncts in their order have rising texts.
use Rattle.std.proofs.Common.{◌≡◌, refl, sym, ◌∙◌, ap, arith, Ordering, Less, Equal, Greater, ℕ, zero, suc, ◌+◌, true, false, List, [], ◌∷◌, ◌++◌, get_or}
use Rattle.std.proofs.lemmas.Bool.{false≢true}
use Rattle.std.specs.List.{AllByRecursion}
use Rattle.std.specs.Ordering.{nat_cmp, is_lt, ordering_reverse}
use Rattle.std.specs.Cmp.{IsTotalOrder}
use Rattle.std.specs.Cmp.Lexicographic.{slice_cmp}
use Rattle.std.specs.FinMap.{nat_cmp-IsAntisymmetric, slice_cmp-IsAntisymmetric}
use Rattle.std.proofs.lemmas.Cmp.{nat_list_cmp_total}
use Rattle.algebra.specs.declared.condition.Condition.{Condition}
use Rattle.algebra.specs.ConditionEquality.{same_condition}
use Rattle.algebra.specs.ConjunctOrder.{AreConjuncts, AreRising, IsInOrder, TextsRise, condition_text, goes_before}
use Rattle.algebra.proofs.Same.{tested_condition}
use Rattle.certificate_text.specs.Conditions.{IsReadable}
use Rattle.certificate_text.proofs.SameFronts.{same_to}
use Rattle.certificate_text.proofs.WideConditions.{conditions_same}

pub texts_differ : (room : ℕ) (c d : Condition) → IsReadable room c → IsReadable room d → condition_text c ≡ condition_text d → c ≡ d
texts_differ room c d h k e =
    let first = conditions_same room c h in
    let second = conditions_same room d k in
    (same_to room c d [] [] first.1 second.1 (ap (λ t. t ++ []) (first.0 ∙ e ∙ sym second.0))).0

-- ---- conjuncts

-- of two conditions of which the later one neither goes before the other nor is the same, the first one's text is before
rises : (room : ℕ) (c d : Condition) → IsReadable room c → IsReadable room d → goes_before d c ≡ false → same_condition c d ≡ false → goes_before c d ≡ true
unfolding goes_before
rises room c d h k after other = by (slice_cmp nat_cmp (condition_text c) (condition_text d)) refl where
  total : IsTotalOrder (slice_cmp nat_cmp)
  total = nat_list_cmp_total

  by : (o : Ordering) → slice_cmp nat_cmp (condition_text c) (condition_text d) ≡ o → is_lt o ≡ true
  by Less is = refl
  by Equal is =
      let same : c ≡ d = texts_differ room c d h k (slice_cmp-IsAntisymmetric nat_cmp-IsAntisymmetric (condition_text c) (condition_text d) is) in
      absurd (false≢true (sym other ∙ sym (tested_condition true c d ((λ t. same), (λ e. refl)))))
  by Greater is = absurd (false≢true (sym after ∙ ap is_lt (total.antisymm (condition_text d) (condition_text c) ∙ ap ordering_reverse is)))

each_rises : (room : ℕ) (C : List Condition) → AllByRecursion (IsReadable room) C → IsInOrder C → TextsRise C
each_rises room [] h order k d l = absurd (omega (arith, l))
each_rises room (c ∷ []) h order k d l = absurd (omega (arith, l))
each_rises room (c ∷ b ∷ C) h order zero d l = rises room c b h.0 h.1.0 order.0.0.0 order.0.0.1
each_rises room (c ∷ b ∷ C) h order (suc k) d l =
    let next : suc k + 1 ≡ suc (k + 1) = omega arith in
    ap (λ n. goes_before (get_or (b ∷ C) k d) (get_or (c ∷ b ∷ C) n d)) next ∙ each_rises room (b ∷ C) h.1 order.1 k d (omega (arith, l))

pub conjuncts_rise : (room : ℕ) (C : List Condition) → AllByRecursion (IsReadable room) C → AreConjuncts C → AreRising C
conjuncts_rise room C h are = (are.parts, each_rises room C h are.ordered)
