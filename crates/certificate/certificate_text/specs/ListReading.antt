-- Lists of conjuncts with numbers of any size, and what reading one gives of any text.
use Rattle.std.specs.Prelude.{◌≡◌, ℕ, List, [], ◌∷◌, ◌++◌, map, flat_map, codes, Result, Ok, Err, Option, Some, None}
use Rattle.std.specs.List.{AllByRecursion, join_by}
use Rattle.values.specs.declared.fault.Fault.{Fault}
use Rattle.values.specs.declared.fault.Fault.TheVariants.{Memory, Refused}
use Rattle.algebra.specs.declared.condition.Condition.{Condition}
use Rattle.algebra.specs.declared.condition.Condition.TheVariants.{And}
use Rattle.certificate_text.specs.declared.part_fault.PartReason.{PartReason}
use Rattle.certificate_text.specs.declared.part_fault.PartReason.TheVariants.{OtherForm, OverLimit}
use Rattle.certificate_text.specs.declared.conjunct_lists.Rising.{Rising}
use Rattle.certificate_text.specs.Conditions.{IsBefore}
use Rattle.certificate_text.specs.ConditionReading.{part_condition_text, IsWithin, IsShortCondition, IsTooDeep}
use Rattle.certificate_text.specs.Parts.{Noted}
use Rattle.certificate_text.specs.PartTexts.{Text}

-- conditions in brackets, with semicolons between them
abbrev pub part_conjuncts_text : List Condition → Text
part_conjuncts_text C = codes "[" ++ (join_by part_condition_text (codes ";") C ++ codes "]")

-- none of them is an AND
abbrev pub IsNoAnd : Condition → Type 0
IsNoAnd c = (a : Condition) (b : Condition) (cs : List Condition) → c ≡ And a b cs → ⊥

-- each text is behind the one before, and the first is behind the last of those so far
abbrev pub AreBehind : Text → List Condition → Type 0
AreBehind last [] = Unit {0}
AreBehind last (c ∷ C) = IsBefore last (part_condition_text c) × AreBehind (part_condition_text c) C

-- there is room for each of them, none is an AND, and their texts rise
abbrev pub AreConjunctsWithin : ℕ → List Condition → Type 0
AreConjunctsWithin room C = AllByRecursion (IsWithin room) C × AllByRecursion IsNoAnd C × AreBehind [] C

-- their numbers are in their ranges
abbrev pub AreShortConditions : List Condition → Type 0
AreShortConditions C = AllByRecursion IsShortCondition C

abbrev pub SpellsAnyConjuncts : ℕ → Text → List Condition → Type 0
SpellsAnyConjuncts room t C = (t ≡ part_conjuncts_text C) × AreConjunctsWithin room C

-- conditions, each with a semicolon behind it
abbrev pub separate_text : List Condition → Text
separate_text C = flat_map (λ c. part_condition_text c ++ codes ";") C

-- behind whole conjuncts of a list that has some, a condition is wanted where there is no room for one
abbrev pub IsListTooDeep : ℕ → Text → Type 0
IsListTooDeep room t = (C : List Condition) × (rest : Text) × (t ≡ codes "[" ++ (separate_text C ++ rest)) × (t ≡ codes "[]" → ⊥) × AreConjunctsWithin room C × IsTooDeep room rest

-- ---- the texts of a list, as it is cut at its semicolons

-- each condition, and the bracket behind the last
abbrev pub part_ended : List Condition → List Text
part_ended [] = []
part_ended (c ∷ []) = (part_condition_text c ++ codes "]") ∷ []
part_ended (c ∷ d ∷ C) = part_condition_text c ∷ part_ended (d ∷ C)

abbrev pub SpellEachAny : ℕ → List Text → List Condition → Type 0
SpellEachAny room ts C = (ts ≡ part_ended C) × AreConjunctsWithin room C

-- behind whole conjuncts is a text that is too deep
abbrev pub IsOneTooDeep : ℕ → List Text → Type 0
IsOneTooDeep room ts = (C : List Condition) × (t : Text) × (more : List Text) × (ts ≡ map part_condition_text C ++ (t ∷ more)) × AreConjunctsWithin room C × IsTooDeep room t

-- ---- what a call gives

-- The conjuncts that are spelled, with each number in its range; nothing where one is past it. Where none are spelled, it is too deep or of
-- another form, and not both.
abbrev pub ReadsList : {T V : Type 0} → (T → List Condition → Type 0) → (T → Type 0) → T → (V → List Condition) → Result (Option V) (Fault PartReason) → Type 0
ReadsList Spells IsDeep t view (Ok (Some v)) = Spells t (view v) × AreShortConditions (view v)
ReadsList Spells IsDeep t view (Ok None) = (C : List Condition) × Spells t C × (AreShortConditions C → ⊥)
ReadsList Spells IsDeep t view (Err Memory) = Unit {0}
ReadsList Spells IsDeep t view (Err (Refused OtherForm)) = ((C : List Condition) → Spells t C → ⊥) × (IsDeep t → ⊥)
ReadsList Spells IsDeep t view (Err (Refused OverLimit)) = IsDeep t

abbrev pub ReadsConjuncts : {V : Type 0} → ℕ → Text → (V → List Condition) → Result (Option V) (Fault PartReason) → Type 0
ReadsConjuncts room = ReadsList (SpellsAnyConjuncts room) (IsListTooDeep room)

-- the condition stands before the end of a part, is no AND, and its text is behind the last one
abbrev pub Continues : ℕ → Text → Text → Text → Condition → Type 0
Continues room part end last c = (part ≡ part_condition_text c ++ end) × IsWithin room c × IsNoAnd c × IsBefore last (part_condition_text c)

-- the call adds the condition of a part
abbrev pub AddsConjunct : ℕ → Text → Text → Rising → Rising → Result Unit (Fault PartReason) → Type 0
AddsConjunct room part end old new (Ok u) =
    (c : Condition) × (v : Condition) × Continues room part end old.last.now c × (new.last.now ≡ part_condition_text c) × (new.conditions ≡ old.conditions ++ (v ∷ [])) × Noted (IsShortCondition c) (v ≡ c) old.in_range new.in_range
AddsConjunct room part end old new (Err Memory) = Unit {0}
AddsConjunct room part end old new (Err (Refused OtherForm)) = ((c : Condition) → Continues room part end old.last.now c → ⊥) × (IsTooDeep room part → ⊥)
AddsConjunct room part end old new (Err (Refused OverLimit)) = IsTooDeep room part
