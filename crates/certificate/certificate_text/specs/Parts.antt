-- What reading a part of the text gives.
use Rattle.std.specs.Prelude.{◌≡◌, ℕ, ◌<◌, ◌^◌, Bool, false, ◌⊎◌, List, map, Result, Ok, Err, Option, Some, None}
use Rattle.std.specs.List.{AllByRecursion}
use Rattle.std.specs.List.Sorted.{IsStrictlyIncreasing}
use Rattle.std.specs.Option.{option_map}
use Rattle.values.specs.declared.fault.Fault.{Fault}
use Rattle.values.specs.declared.fault.Fault.TheVariants.{Memory, Refused}
use Rattle.certificate_text.specs.declared.part_fault.PartReason.{PartReason}
use Rattle.certificate_text.specs.declared.part_fault.PartReason.TheVariants.{OtherForm, OverLimit}
use Rattle.certificate_text.specs.PartTexts.{Text, numbers_text}
use Rattle.certificate_text.specs.Numerals.{numeral}

-- The value that the text spells, with its numbers in their ranges; nothing where it spells one with a number past its range; and no form
-- where it spells none.
abbrev pub IsRead : {T X : Type 0} → (T → X → Type 0) → (X → Type 0) → T → Result (Option X) PartReason → Type 0
IsRead Spells IsInRange t (Ok (Some x)) = Spells t x × IsInRange x
IsRead {X = X} Spells IsInRange t (Ok None) = (x : X) × Spells t x × (IsInRange x → ⊥)
IsRead {X = X} Spells IsInRange t (Err OtherForm) = (x : X) → Spells t x → ⊥
IsRead Spells IsInRange t (Err OverLimit) = ⊥

-- the same of a call that gives the value as view shows it; running out of memory says nothing
abbrev pub Reads : {T X V : Type 0} → (T → X → Type 0) → (X → Type 0) → T → (V → X) → Result (Option V) (Fault PartReason) → Type 0
Reads Spells IsInRange t view (Ok v) = IsRead Spells IsInRange t (Ok (option_map view v))
Reads Spells IsInRange t view (Err Memory) = Unit {0}
Reads Spells IsInRange t view (Err (Refused r)) = IsRead Spells IsInRange t (Err r)

-- the same of a call whose values have no range
abbrev pub ReadsAny : {T X V : Type 0} → (T → X → Type 0) → T → (V → X) → Result V (Fault PartReason) → Type 0
ReadsAny Spells t view (Ok v) = Spells t (view v)
ReadsAny Spells t view (Err Memory) = Unit {0}
ReadsAny {X = X} Spells t view (Err (Refused OtherForm)) = (x : X) → Spells t x → ⊥
ReadsAny Spells t view (Err (Refused OverLimit)) = ⊥

-- a call has given the value where it is in range; where it isn't, that is noted, and the value says nothing
abbrev pub Noted : Type 0 → Type 0 → Bool → Bool → Type 0
Noted IsInRange IsGiven old new = (IsInRange × IsGiven × (new ≡ old)) ⊎ ((IsInRange → ⊥) × (new ≡ false))

-- ---- numbers

abbrev pub SpellsNumber : Text → ℕ → Type 0
SpellsNumber t n = t ≡ numeral n

-- the number is within 32 bits
abbrev pub IsShort : ℕ → Type 0
IsShort n = n < 2 ^ 32

-- each text is that of a number
abbrev pub SpellEach : List Text → List ℕ → Type 0
SpellEach ts ns = ts ≡ map numeral ns

abbrev pub SpellsNumbers : Text → List ℕ → Type 0
SpellsNumbers t ns = t ≡ numbers_text ns

abbrev pub AreShort : List ℕ → Type 0
AreShort ns = AllByRecursion IsShort ns

-- ---- columns

-- a list of columns rises strictly
abbrev pub SpellsColumns : Text → List ℕ → Type 0
SpellsColumns t ns = SpellsNumbers t ns × IsStrictlyIncreasing ns
