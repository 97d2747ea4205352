-- Lists of conjuncts are told by their texts, and with their numbers in the ranges they are those of `certificate_text`.
use Rattle.std.proofs.Common.{◌≡◌, ℕ, ◌<◌, List, [], ◌∷◌, ◌++◌, length, flat_map, drop, get_or, Err, append_assoc, length-append, refl, sym, ◌∙◌, ap, arith, codes}
use Rattle.std.specs.List.{AllByRecursion, join_by}
use Rattle.values.specs.declared.fault.Fault.{Fault}
use Rattle.values.specs.declared.fault.Fault.TheVariants.{Memory, Refused}
use Rattle.algebra.specs.declared.condition.Condition.{Condition}
use Rattle.algebra.specs.ConjunctOrder.{condition_text}
use Rattle.certificate_text.specs.declared.part_fault.PartReason.{PartReason}
use Rattle.certificate_text.specs.declared.part_fault.PartReason.TheVariants.{OtherForm, OverLimit}
use Rattle.certificate_text.specs.Conditions.{IsReadable}
use Rattle.certificate_text.specs.ConditionReading.{part_condition_text, IsWithin, IsTooDeep}
use Rattle.certificate_text.specs.ListReading.{part_conjuncts_text, AreConjunctsWithin, AreShortConditions, IsListTooDeep, ReadsConjuncts, separate_text}
use Rattle.certificate_text.proofs.ConjunctLists as lists
use Rattle.certificate_text.proofs.SameFronts.{same_to, not_both_fronts}
use Rattle.certificate_text.proofs.WideConditions.{conditions_same}
use Rattle.certificate_text.specs.CertificateText.{Text, conjuncts_text}
use Rattle.certificate_text.specs.Limits.{most_nested}
use Rattle.certificate_text.specs.Readable.{AreConjuncts}
use Rattle.certificate_read.specs.WordReading.{conjuncts_wording}
use Rattle.certificate_read.specs.Wordings.{Refuses, left_words, line_fault_of}
use Rattle.certificate_read.specs.declared.words.Words.{Words}
use Rattle.certificate_read.proofs.Wordings.{AreTold, one_told, word_refused, word_over}

pub conjuncts_told : AreTold conjuncts_wording
conjuncts_told =
    one_told part_conjuncts_text (AreConjunctsWithin most_nested) AreShortConditions (IsListTooDeep most_nested) (λ C D h k e. lists.conjuncts_told most_nested (part_conjuncts_text C) C D (refl, h) (e, k)) (λ C h. lists.list_shallow most_nested (part_conjuncts_text C) C (refl, h))

-- what the exit at a fault of the list gives
pub conjuncts_refused : {V : Type 0} (view : V → List Condition) (old mid : Words) (w : Text) (fault : Fault PartReason) → (left_words old ≡ w ∷ left_words mid) × (mid.in_range ≡ old.in_range) → ReadsConjuncts most_nested w view (Err fault)
    → Refuses conjuncts_wording (left_words old) (line_fault_of fault)
conjuncts_refused view old mid w Memory passed h = tt
conjuncts_refused view old mid w (Refused OtherForm) passed h =
    word_refused part_conjuncts_text (AreConjunctsWithin most_nested) AreShortConditions (IsListTooDeep most_nested) old mid w passed (λ C is e. h.0 C (e, is)) h.1
conjuncts_refused view old mid w (Refused OverLimit) passed h = word_over part_conjuncts_text (AreConjunctsWithin most_nested) AreShortConditions (IsListTooDeep most_nested) old mid w passed h

-- ---- with numbers in their ranges

pub conjuncts_wide : (C : List Condition) → AreConjuncts C → (part_conjuncts_text C ≡ conjuncts_text C) × AreConjunctsWithin most_nested C × AreShortConditions C
conjuncts_wide C h =
    let wide = lists.rising_within most_nested C h.0 h.1 in
    (lists.conjuncts_algebras most_nested C h.0, wide.0, wide.1)
