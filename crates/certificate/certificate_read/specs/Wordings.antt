-- How values are spelled by words, and what a call reads of any words.
use Rattle.std.specs.Prelude.{◌≡◌, ◌⊎◌, true, false, Bool, List, [], ◌∷◌, ◌++◌, map, Result, Ok, Err, MatchResult}
use Rattle.certificate_text.specs.Parts.{Noted}
use Rattle.values.specs.declared.fault.Fault.{Fault}
use Rattle.values.specs.declared.fault.Fault.TheVariants as fault
use Rattle.certificate_text.specs.declared.part_fault.PartReason.{PartReason}
use Rattle.certificate_text.specs.declared.part_fault.PartReason.TheVariants as reason
use Rattle.certificate_text.specs.CertificateText.{Text}
use Rattle.certificate_read.specs.declared.line_fault.LineFault.{LineFault}
use Rattle.certificate_read.specs.declared.line_fault.LineFault.TheVariants.{Memory, OtherForm, OutOfRange, OverLimit}
use Rattle.certificate_read.specs.declared.words.Words.{Words}

-- the words that are left
abbrev pub left_words : Words → List Text
left_words w = map (λ word. word.now) w.left.now

-- ---- how values are spelled

-- The words of a value; which values may stand in a line, with numbers of any size; which have their numbers in the ranges; and which words are over
-- a limit.
pub record Wording (X : Type 0) : Type 1 where
  pub words : X → List Text
  pub Is : X → Type 0
  pub IsInRange : X → Type 0
  pub IsOver : List Text → Type 0

abbrev pub IsAny : {X : Type 0} → X → Type 0
IsAny x = Unit {0}

abbrev pub IsNever : {X : Type 0} → X → Type 0
IsNever x = ⊥

-- a value of one word
abbrev pub one : {X : Type 0} → (X → Text) → (X → Type 0) → (X → Type 0) → (Text → Type 0) → Wording X
one text Is IsInRange IsOver =
    record {
      words = λ x. text x ∷ [];
      Is = Is;
      IsInRange = IsInRange;
      IsOver = λ ws. (w : Text) × (rest : List Text) × (ws ≡ w ∷ rest) × IsOver w;
    }

-- one value behind another
infixr 6 ◌␣◌
abbrev pub ◌␣◌ : {X Y : Type 0} → Wording X → Wording Y → Wording (X × Y)
◌␣◌ {X} F G =
    record {
      words = λ x. F.words x.0 ++ G.words x.1;
      Is = λ x. F.Is x.0 × G.Is x.1;
      IsInRange = λ x. F.IsInRange x.0 × G.IsInRange x.1;
      IsOver = λ ws. F.IsOver ws ⊎ ((x : X) × (rest : List Text) × F.Is x × (ws ≡ F.words x ++ rest) × G.IsOver rest);
    }

-- a name, and what is wanted behind it
abbrev pub named : {F : Type 0} {P : F → Type 0} → (F → Text) → ((f : F) → Wording (P f)) → Wording ((f : F) × P f)
named {F} name behind =
    record {
      words = λ x. name x.0 ∷ (behind x.0).words x.1;
      Is = λ x. (behind x.0).Is x.1;
      IsInRange = λ x. (behind x.0).IsInRange x.1;
      IsOver = λ ws. (f : F) × (rest : List Text) × (ws ≡ name f ∷ rest) × (behind f).IsOver rest;
    }

-- values that are spelled as their parts are
abbrev pub by_parts : {X Y : Type 0} → (Y → X) → Wording X → Wording Y
by_parts parts W =
    record {
      words = λ y. W.words (parts y);
      Is = λ y. W.Is (parts y);
      IsInRange = λ y. W.IsInRange (parts y);
      IsOver = W.IsOver;
    }

-- values of a line that may stand too deep: there they are over a limit
abbrev pub deep : {X : Type 0} → Bool → Wording X → Wording X
deep {X} is_within W =
    record {
      words = W.words;
      Is = λ x. (is_within ≡ true) × W.Is x;
      IsInRange = W.IsInRange;
      IsOver = λ ws. W.IsOver ws ⊎ ((is_within ≡ false) × (x : X) × W.Is x × (ws ≡ W.words x));
    }

-- ---- what a call reads

-- the fault of a part as one of its line
abbrev pub line_fault_of : Fault PartReason → LineFault
line_fault_of fault.Memory = Memory
line_fault_of (fault.Refused reason.OtherForm) = OtherForm
line_fault_of (fault.Refused reason.OverLimit) = OverLimit

-- the call passes the next word
abbrev pub PassesWord : {V : Type 0} → (V → Text) → Words → Words → Result V LineFault → Type 0
PassesWord view old new result = MatchResult result (λ w. (left_words old ≡ view w ∷ left_words new) × (new.in_range ≡ old.in_range)) (λ fault. (fault ≡ OtherForm) × (left_words old ≡ []))

-- the call passes the name of a form
abbrev pub PassesName : {F : Type 0} → (F → Text) → Words → Words → Result F LineFault → Type 0
PassesName {F} name old new result =
    MatchResult result (λ form. (left_words old ≡ name form ∷ left_words new) × (new.in_range ≡ old.in_range)) (λ fault. (fault ≡ OtherForm) × ((form : F) (rest : List Text) → left_words old ≡ name form ∷ rest → ⊥))

-- the words of a value are passed, and it is given where its numbers are in their ranges
abbrev pub Passes : {X : Type 0} → Wording X → (X → Type 0) → Words → Words → Type 0
Passes {X} W IsGiven old new = (x : X) × (left_words old ≡ W.words x ++ left_words new) × W.Is x × Noted (W.IsInRange x) (IsGiven x) old.in_range new.in_range

-- other words are of another form or over a limit, and not both
abbrev pub Refuses : {X : Type 0} → Wording X → List Text → LineFault → Type 0
Refuses W ws Memory = Unit {0}
Refuses {X} W ws OtherForm = ((x : X) (rest : List Text) → W.Is x → ws ≡ W.words x ++ rest → ⊥) × (W.IsOver ws → ⊥)
Refuses W ws OverLimit = W.IsOver ws
Refuses W ws OutOfRange = ⊥

-- the call passes the words of a value, and gives what it makes of it
abbrev pub ReadsWords : {V X : Type 0} → Wording X → (X → V) → Words → Words → Result V LineFault → Type 0
ReadsWords W make old new result = MatchResult result (λ v. Passes W (λ x. v ≡ make x) old new) (λ fault. Refuses W (left_words old) fault)

-- ---- whole lines

-- no word is left, the line is within the limits, and no number was past its range; else the first of these that isn't so
abbrev pub EndsLine : Words → Bool → Result Unit LineFault → Type 0
EndsLine w is_within (Ok u) = (left_words w ≡ []) × (is_within ≡ true) × (w.in_range ≡ true)
EndsLine w is_within (Err Memory) = ⊥
EndsLine w is_within (Err OtherForm) = left_words w ≡ [] → ⊥
EndsLine w is_within (Err OverLimit) = (left_words w ≡ []) × (is_within ≡ false)
EndsLine w is_within (Err OutOfRange) = (left_words w ≡ []) × (is_within ≡ true) × (w.in_range ≡ false)

-- The value that the words are those of, with its numbers in their ranges. Else the words are of another form, or over a limit, or they are those of
-- a value with a number past its range.
abbrev pub ReadsLine : {V X : Type 0} → Wording X → (X → V) → List Text → Result V LineFault → Type 0
ReadsLine {X = X} W make ws (Ok v) = (x : X) × (ws ≡ W.words x) × W.Is x × W.IsInRange x × (v ≡ make x)
ReadsLine W make ws (Err Memory) = Unit {0}
ReadsLine {X = X} W make ws (Err OtherForm) = ((x : X) → W.Is x → ws ≡ W.words x → ⊥) × (W.IsOver ws → ⊥)
ReadsLine W make ws (Err OverLimit) = W.IsOver ws
ReadsLine {X = X} W make ws (Err OutOfRange) = (x : X) × (ws ≡ W.words x) × W.Is x × (W.IsInRange x → ⊥)
