-- Conditions that can be read, and what a call leaves of the text that it reads one in.
use Rattle.std.specs.Prelude.{◌≡◌, ℕ, ◌-◌, Bool, true, ◌&&◌, nat_lt, List, [], ◌∷◌, ◌++◌, flat_map, codes}
use Rattle.std.specs.List.{list_all, AllByRecursion}
use Rattle.std.specs.Cmp.Lexicographic.{slice_cmp}
use Rattle.std.specs.Ordering.{nat_cmp, is_lt}
use Rattle.algebra.specs.declared.condition.Condition.{Condition, fold-Condition}
use Rattle.algebra.specs.declared.condition.Condition.TheOpen.{Condition-F}
use Rattle.algebra.specs.declared.condition.Term.{Term}
use Rattle.algebra.specs.declared.condition.Term.TheVariants as term
use Rattle.algebra.specs.ConjunctOrder.{comparison_text}
use Rattle.certificate_text.specs.declared.conditions.Form.{Form}
use Rattle.certificate_text.specs.declared.conditions.Form.TheVariants as form
use Rattle.certificate_text.specs.PartTexts.{Text}
use Rattle.certificate_text.specs.Spelled.{IsReadableTerm}

-- ---- conditions

-- the terms in a condition, where classes and columns stand as columns
abbrev pub terms_layer : Condition-F (List Term) → List Term
terms_layer (Condition-F.Compare op a b) = a ∷ b ∷ []
terms_layer (Condition-F.IsNull a) = a ∷ []
terms_layer (Condition-F.Not c) = c
terms_layer (Condition-F.And a b cs) = a ++ (b ++ flat_map (λ c. c) cs)
terms_layer (Condition-F.Or a b cs) = a ++ (b ++ flat_map (λ c. c) cs)
terms_layer (Condition-F.Exists g) = term.Column g ∷ []
terms_layer (Condition-F.In a g k) = a ∷ term.Column g ∷ term.Column k ∷ []

unfoldable pub terms_of : Condition → List Term
terms_of = fold-Condition (List Term) terms_layer

abbrev pub nests_layer : Condition-F (ℕ → Bool) → ℕ → Bool
nests_layer (Condition-F.Compare op a b) room = nat_lt 0 room
nests_layer (Condition-F.IsNull a) room = nat_lt 0 room
nests_layer (Condition-F.Not c) room = nat_lt 0 room && c (room - 1)
nests_layer (Condition-F.And a b cs) room = nat_lt 0 room && list_all (λ c. c (room - 1)) (a ∷ b ∷ cs)
nests_layer (Condition-F.Or a b cs) room = nat_lt 0 room && list_all (λ c. c (room - 1)) (a ∷ b ∷ cs)
nests_layer (Condition-F.Exists g) room = nat_lt 0 room
nests_layer (Condition-F.In a g k) room = nat_lt 0 room

-- whether no more conditions stand in one another than there is room for
unfoldable pub nests_within : Condition → ℕ → Bool
nests_within = fold-Condition (ℕ → Bool) nests_layer

-- its numbers are in their ranges and its texts valid, and there is room for it
abbrev pub IsReadable : ℕ → Condition → Type 0
IsReadable room c = (nests_within c room ≡ true) × AllByRecursion IsReadableTerm (terms_of c)

-- what stands before a condition's parenthesis
abbrev pub form_text : Form → Text
form_text form.Not = codes "not"
form_text form.And = codes "and"
form_text form.Or = codes "or"
form_text form.IsNull = codes "null"
form_text form.Exists = codes "exists"
form_text form.In = codes "in"
form_text (form.Compare op) = comparison_text op

-- ---- lists of conjuncts

-- the first text is before the second in the order of bytes
abbrev pub IsBefore : Text → Text → Type 0
IsBefore v w = is_lt (slice_cmp nat_cmp v w) ≡ true
