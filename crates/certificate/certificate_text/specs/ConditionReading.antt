-- Conditions with numbers of any size, and what reading one gives of any text.
use Rattle.std.specs.Prelude.{◌≡◌, ℕ, zero, suc, true, ◌⊎◌, List, ◌∷◌, ◌++◌, flat_map, codes, Result, Ok, Err}
use Rattle.std.specs.List.{AllByRecursion}
use Rattle.values.specs.declared.fault.Fault.{Fault}
use Rattle.values.specs.declared.fault.Fault.TheVariants.{Memory, Refused}
use Rattle.algebra.specs.declared.condition.Condition.{Condition, fold-Condition}
use Rattle.algebra.specs.declared.condition.Condition.TheOpen.{Condition-F}
use Rattle.algebra.specs.declared.condition.Term.{Term}
use Rattle.algebra.specs.ConjunctOrder.{comparison_text, condition_text, listed}
use Rattle.certificate_text.specs.declared.part_fault.PartReason.{PartReason}
use Rattle.certificate_text.specs.declared.part_fault.PartReason.TheVariants.{OtherForm, OverLimit}
use Rattle.certificate_text.specs.declared.conditions.Cursor.{Cursor}
use Rattle.certificate_text.specs.declared.conditions.Form.{Form}
use Rattle.certificate_text.specs.Conditions.{IsReadable, form_text, nests_within, terms_of}
use Rattle.certificate_text.specs.Numerals.{numeral}
use Rattle.certificate_text.specs.Parts.{IsShort, Noted}
use Rattle.certificate_text.specs.PartTexts.{Text, lacks, part_term_text}
use Rattle.certificate_text.specs.Spelled.{HasText, IsShortTerm}

-- ---- the text of a condition, with numbers of any size

abbrev pub part_text_layer : Condition-F Text → Text
part_text_layer (Condition-F.Compare op a b) = comparison_text op ++ (codes "(" ++ (part_term_text a ++ (codes "," ++ (part_term_text b ++ codes ")"))))
part_text_layer (Condition-F.IsNull a) = codes "null(" ++ (part_term_text a ++ codes ")")
part_text_layer (Condition-F.Not c) = codes "not(" ++ (c ++ codes ")")
part_text_layer (Condition-F.And a b cs) = codes "and(" ++ (listed (a ∷ b ∷ cs) ++ codes ")")
part_text_layer (Condition-F.Or a b cs) = codes "or(" ++ (listed (a ∷ b ∷ cs) ++ codes ")")
part_text_layer (Condition-F.Exists g) = codes "exists(" ++ (numeral g ++ codes ")")
part_text_layer (Condition-F.In a g k) = codes "in(" ++ (part_term_text a ++ (codes "," ++ (numeral g ++ (codes ",c" ++ (numeral k ++ codes ")")))))

unfoldable pub part_condition_text : Condition → Text
part_condition_text = fold-Condition Text part_text_layer

-- there is room for it, and what it has as texts are texts
abbrev pub IsWithin : ℕ → Condition → Type 0
IsWithin room c = (nests_within c room ≡ true) × AllByRecursion HasText (terms_of c)

-- its numbers are in their ranges
abbrev pub IsShortCondition : Condition → Type 0
IsShortCondition c = AllByRecursion IsShortTerm (terms_of c)

-- within the ranges it is the text that algebra gives the condition
abbrev pub ConditionsAreAlgebras : Type 0
ConditionsAreAlgebras = (room : ℕ) (c : Condition) → IsReadable room c → (part_condition_text c ≡ condition_text c) × IsWithin room c × IsShortCondition c

-- ---- what stands at the front of a text, before the rest

-- the condition, which there is room for
abbrev pub BeginsWith : ℕ → Text → Condition → Text → Type 0
BeginsWith room t c rest = (t ≡ part_condition_text c ++ rest) × IsWithin room c

-- conditions, each with a comma behind it
abbrev pub parts_text : List Condition → Text
parts_text cs = flat_map (λ c. part_condition_text c ++ codes ",") cs

-- conditions, each behind a comma
abbrev pub more_text : List Condition → Text
more_text cs = flat_map (λ c. codes "," ++ part_condition_text c) cs

-- the parts of an AND or an OR, and its parenthesis
abbrev pub Parts : Type 0
Parts = Condition × Condition × List Condition

abbrev pub BeginsParts : ℕ → Text → Parts → Text → Type 0
BeginsParts room t p rest = (t ≡ part_condition_text p.0 ++ (codes "," ++ (part_condition_text p.1 ++ (more_text p.2 ++ (codes ")" ++ rest))))) × IsWithin room p.0 × IsWithin room p.1 × AllByRecursion (IsWithin room) p.2

-- the parts behind the second, and the parenthesis
abbrev pub BeginsMore : ℕ → Text → List Condition → Text → Type 0
BeginsMore room t cs rest = (t ≡ more_text cs ++ (codes ")" ++ rest)) × AllByRecursion (IsWithin room) cs

-- the terms of a comparison, and its parenthesis
abbrev pub BeginsComparison : Text → Term × Term → Text → Type 0
BeginsComparison t x rest = (t ≡ part_term_text x.0 ++ (codes "," ++ (part_term_text x.1 ++ (codes ")" ++ rest)))) × HasText x.0 × HasText x.1

-- a term, a class and its column, and the parenthesis
abbrev pub BeginsMembership : Text → Term × ℕ × ℕ → Text → Type 0
BeginsMembership t x rest = (t ≡ part_term_text x.0 ++ (codes "," ++ (numeral x.1 ++ (codes ",c" ++ (numeral x.2 ++ (codes ")" ++ rest)))))) × HasText x.0

-- the term and a character behind it
abbrev pub BeginsTerm : ℕ → Text → Term → Text → Type 0
BeginsTerm end t a rest = (t ≡ part_term_text a ++ (end ∷ rest)) × HasText a

abbrev pub BeginsNumber : ℕ → Text → ℕ → Text → Type 0
BeginsNumber end t n rest = t ≡ numeral n ++ (end ∷ rest)

-- the name of a form and the parenthesis behind it
abbrev pub BeginsForm : Text → Form → Text → Type 0
BeginsForm t f rest = t ≡ form_text f ++ (codes "(" ++ rest)

-- ---- numbers in their ranges

abbrev pub AreShortParts : Parts → Type 0
AreShortParts p = IsShortCondition p.0 × IsShortCondition p.1 × AllByRecursion IsShortCondition p.2

abbrev pub IsShortComparison : Term × Term → Type 0
IsShortComparison x = IsShortTerm x.0 × IsShortTerm x.1

abbrev pub IsShortMembership : Term × ℕ × ℕ → Type 0
IsShortMembership x = IsShortTerm x.0 × IsShort x.1 × IsShort x.2

-- what has no number is in range
abbrev pub IsAny : {X : Type 0} → X → Type 0
IsAny x = Unit {0}

-- ---- conditions that there is no room for

-- behind whole parts, what is told of a text stands
abbrev pub BehindParts : ℕ → (Text → Type 0) → Text → Type 0
BehindParts room Is t = (cs : List Condition) × (rest : Text) × (t ≡ parts_text cs ++ rest) × AllByRecursion (IsWithin room) cs × Is rest

-- A condition is wanted where there is no room for one: at the front of the text, or in a NOT, or in an AND or an OR behind whole parts.
abbrev pub IsTooDeep : ℕ → Text → Type 0
IsTooDeep zero t = Unit {0}
IsTooDeep (suc room) t =
    ((rest : Text) × (t ≡ codes "not(" ++ rest) × IsTooDeep room rest)
    ⊎ ((rest : Text) × ((t ≡ codes "and(" ++ rest) ⊎ (t ≡ codes "or(" ++ rest)) × BehindParts room (IsTooDeep room) rest)

-- the same behind commas
abbrev pub IsMoreTooDeep : ℕ → Text → Type 0
IsMoreTooDeep room t = (cs : List Condition) × (rest : Text) × (t ≡ more_text cs ++ (codes "," ++ rest)) × AllByRecursion (IsWithin room) cs × IsTooDeep room rest

abbrev pub IsNever : Text → Type 0
IsNever t = ⊥

-- ---- what a call reads

-- The call passes what stands at the front of the text. It gives what it makes of it where its numbers are in their ranges, and notes where they
-- aren't. Another text is over a limit or of another form, and not both.
abbrev pub Passes : {V X : Type 0} → (Text → X → Text → Type 0) → (X → Type 0) → (Text → Type 0) → (X → V) → Cursor → Cursor → Result V (Fault PartReason) → Type 0
Passes {X = X} Begins IsInRange IsOver make old new (Ok v) = (x : X) × Begins old.left.now x new.left.now × Noted (IsInRange x) (v ≡ make x) old.in_range new.in_range
Passes Begins IsInRange IsOver make old new (Err Memory) = Unit {0}
Passes {X = X} Begins IsInRange IsOver make old new (Err (Refused OtherForm)) = ((x : X) (rest : Text) → Begins old.left.now x rest → ⊥) × (IsOver old.left.now → ⊥)
Passes Begins IsInRange IsOver make old new (Err (Refused OverLimit)) = IsOver old.left.now

abbrev pub PassesCondition : ℕ → Cursor → Cursor → Result Condition (Fault PartReason) → Type 0
PassesCondition room = Passes (BeginsWith room) IsShortCondition (IsTooDeep room) (λ c. c)

-- the call passes a word, which view shows, and the first such character, which stands behind it
abbrev pub PassesWord : {V : Type 0} → (V → Text) → ℕ → Cursor → Cursor → Result V (Fault PartReason) → Type 0
PassesWord view end old new (Ok w) = (old.left.now ≡ view w ++ (end ∷ new.left.now)) × (lacks end (view w) ≡ true) × (new.in_range ≡ old.in_range)
PassesWord view end old new (Err Memory) = Unit {0}
PassesWord view end old new (Err (Refused OtherForm)) = (word : Text) (rest : Text) → lacks end word ≡ true → old.left.now ≡ word ++ (end ∷ rest) → ⊥
PassesWord view end old new (Err (Refused OverLimit)) = ⊥
