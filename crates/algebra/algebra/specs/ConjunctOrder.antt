-- Lists of conjuncts: no ANDs, in rising byte order of their texts, each once. The texts are this project's profile: a condition
-- as certificates spell it.
use Rattle.std.specs.Prelude.{◌≡◌, ℕ, Bool, true, false, ◌||◌, if◌then◌else◌, List, [], ◌∷◌, ◌++◌, length, map, flat_map, codes, decimal}
use Rattle.std.specs.List.{AllByRecursion, AllAdjacentBelow, join_by}
use Rattle.std.specs.Fmt.{signed_decimal}
use Rattle.std.specs.Ordering.{nat_cmp, is_lt}
use Rattle.std.specs.Cmp.Lexicographic.{slice_cmp}
use Rattle.hex.specs.Hex.{encode_lower}
use Rattle.values.specs.declared.truth.Comparison.{Comparison}
use Rattle.values.specs.declared.truth.Comparison.TheVariants as by
use Rattle.values.specs.declared.value.Value.{Value}
use Rattle.values.specs.declared.value.Value.TheVariants as value
use Rattle.algebra.specs.declared.condition.Term.{Term}
use Rattle.algebra.specs.declared.condition.Term.TheVariants as term
use Rattle.algebra.specs.declared.condition.Condition.{Condition, fold-Condition}
use Rattle.algebra.specs.declared.condition.Condition.TheOpen.{Condition-F}
use Rattle.algebra.specs.declared.condition.Condition.TheVariants.{Compare, IsNull, Not, And, Or, Exists, In}
use Rattle.algebra.specs.ConditionEquality.{same_condition}

-- ---- texts

-- a value: `n`, `i` and the number, or `t` and the text's bytes in hex
abbrev pub value_text : Value → List ℕ
value_text value.Null = codes "n"
value_text (value.Int n) = codes "i" ++ signed_decimal n
value_text (value.Text t) = codes "t" ++ encode_lower t

abbrev pub term_text : Term → List ℕ
term_text (term.Column c) = codes "c" ++ decimal c
term_text (term.Literal v) = value_text v

abbrev pub comparison_text : Comparison → List ℕ
comparison_text by.Equal = codes "="
comparison_text by.NotEqual = codes "<>"
comparison_text by.Less = codes "<"
comparison_text by.LessOrEqual = codes "<="
comparison_text by.Greater = codes ">"
comparison_text by.GreaterOrEqual = codes ">="

-- texts with commas between them
abbrev pub listed : List (List ℕ) → List ℕ
listed texts = join_by (λ t. t) (codes ",") texts

-- the text of a condition, given those of its parts
abbrev pub text_layer : Condition-F (List ℕ) → List ℕ
text_layer (Condition-F.Compare c a b) = comparison_text c ++ (codes "(" ++ (term_text a ++ (codes "," ++ (term_text b ++ codes ")"))))
text_layer (Condition-F.IsNull a) = codes "null(" ++ (term_text a ++ codes ")")
text_layer (Condition-F.Not c) = codes "not(" ++ (c ++ codes ")")
text_layer (Condition-F.And a b cs) = codes "and(" ++ (listed (a ∷ b ∷ cs) ++ codes ")")
text_layer (Condition-F.Or a b cs) = codes "or(" ++ (listed (a ∷ b ∷ cs) ++ codes ")")
text_layer (Condition-F.Exists g) = codes "exists(" ++ (decimal g ++ codes ")")
text_layer (Condition-F.In a g k) = codes "in(" ++ (term_text a ++ (codes "," ++ (decimal g ++ (codes ",c" ++ (decimal k ++ codes ")")))))

unfoldable pub condition_text : Condition → List ℕ
condition_text = fold-Condition (List ℕ) text_layer

-- ---- lists

unfoldable pub goes_before : Condition → Condition → Bool
goes_before c d = is_lt (slice_cmp nat_cmp (condition_text c) (condition_text d))

-- where the search for a condition's place ends: at the same condition, or at one that goes after it
abbrev pub ends_search : Condition → Condition → Bool
ends_search c d = same_condition c d || goes_before c d

-- a condition put at its place in a list in order, unless it is there
abbrev pub put_in_order : Condition → List Condition → List Condition
put_in_order c [] = c ∷ []
put_in_order c (d ∷ ds) = if same_condition c d then d ∷ ds else if goes_before c d then c ∷ d ∷ ds else d ∷ put_in_order c ds

-- the conditions in order, each once
abbrev pub in_order : List Condition → List Condition
in_order [] = []
in_order (c ∷ cs) = put_in_order c (in_order cs)

-- ---- conjuncts

-- a condition, and the parts of the ANDs at its top
pub record Flat : Type 0 where
  pub whole : Condition
  pub parts : List Condition

abbrev pub alone : Condition → Flat
alone c = record { whole = c; parts = c ∷ [] }

abbrev pub flat_layer : Condition-F Flat → Flat
flat_layer (Condition-F.Compare op a b) = alone (Compare op a b)
flat_layer (Condition-F.IsNull a) = alone (IsNull a)
flat_layer (Condition-F.Not c) = alone (Not c.whole)
flat_layer (Condition-F.And a b cs) = record { whole = And a.whole b.whole (map (λ c. c.whole) cs); parts = flat_map (λ c. c.parts) (a ∷ b ∷ cs) }
flat_layer (Condition-F.Or a b cs) = alone (Or a.whole b.whole (map (λ c. c.whole) cs))
flat_layer (Condition-F.Exists g) = alone (Exists g)
flat_layer (Condition-F.In a g k) = alone (In a g k)

unfoldable pub flat : Condition → Flat
flat = fold-Condition Flat flat_layer

abbrev pub parts_of : Condition → List Condition
parts_of c = (flat c).parts

-- the conjuncts of conditions: the parts of the ANDs at their tops, in order
abbrev pub conjuncts : List Condition → List Condition
conjuncts C = in_order (flat_map parts_of C)

-- the condition is no AND
abbrev pub IsPart : Condition → Type 0
IsPart c = parts_of c ≡ c ∷ []

-- of two conditions the later one neither goes before the other nor is the same
abbrev pub IsInOrder : List Condition → Type 0
IsInOrder [] = Unit {0}
IsInOrder (c ∷ C) = AllByRecursion (λ d. (goes_before d c ≡ false) × (same_condition c d ≡ false)) C × IsInOrder C

-- what a list of conjuncts is
pub record AreConjuncts (C : List Condition) : Type 0 where
  pub parts : AllByRecursion IsPart C
  pub ordered : IsInOrder C

-- the text of each condition is below that of the next
abbrev pub TextsRise : List Condition → Type 0
TextsRise C = AllAdjacentBelow (λ c d. goes_before c d ≡ true) C (length C)

-- conjuncts as a certificate spells them
abbrev pub AreRising : List Condition → Type 0
AreRising C = AllByRecursion IsPart C × TextsRise C
