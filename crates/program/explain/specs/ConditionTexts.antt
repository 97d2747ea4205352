-- Conditions as SQL writes them, with classes by their numbers where SQL has subqueries.
use Rattle.std.specs.Prelude.{ℕ, ◌==◌, if◌then◌else◌, List, [], ◌∷◌, ◌++◌, flat_map, codes, decimal}
use Rattle.std.specs.List.{join_by}
use Rattle.std.specs.Fmt.{signed_decimal}
use Rattle.values.specs.declared.value.Value.{Value}
use Rattle.values.specs.declared.value.Value.TheVariants as value
use Rattle.algebra.specs.declared.condition.Term.{Term}
use Rattle.algebra.specs.declared.condition.Term.TheVariants as term
use Rattle.algebra.specs.declared.condition.Condition.{Condition, fold-Condition}
use Rattle.algebra.specs.declared.condition.Condition.TheOpen.{Condition-F}
use Rattle.algebra.specs.ConjunctOrder.{comparison_text}
use Rattle.explain.specs.Names.{Text, ◌␣◌, Naming, column_text}

-- ---- terms

-- a quote within quotes stands twice
abbrev pub escaped : ℕ → Text
escaped byte = if byte == 39 then codes "''" else byte ∷ []

abbrev pub quoted : Text → Text
quoted text = codes "'" ++ (flat_map escaped text ++ codes "'")

abbrev pub value_text : Value → Text
value_text value.Null = codes "NULL"
value_text (value.Int n) = signed_decimal n
value_text (value.Text text) = quoted text

abbrev pub term_text : Naming → Term → Text
term_text names (term.Column c) = column_text names c
term_text names (term.Literal v) = value_text v

-- ---- conditions

-- parts in parentheses, with a word between them
abbrev pub joined : Text → List Text → Text
joined word parts = codes "(" ++ (join_by (λ part. part) word parts ++ codes ")")

-- the text of a condition, given those of its parts
abbrev pub condition_layer : Naming → Condition-F Text → Text
condition_layer names (Condition-F.Compare c a b) = term_text names a ␣ comparison_text c ␣ term_text names b
condition_layer names (Condition-F.IsNull a) = term_text names a ++ codes " IS NULL"
condition_layer names (Condition-F.Not c) = codes "NOT (" ++ (c ++ codes ")")
condition_layer names (Condition-F.And a b cs) = joined (codes " AND ") (a ∷ b ∷ cs)
condition_layer names (Condition-F.Or a b cs) = joined (codes " OR ") (a ∷ b ∷ cs)
condition_layer names (Condition-F.Exists g) = codes "EXISTS #" ++ decimal g
condition_layer names (Condition-F.In a g k) = term_text names a ++ (codes " IN #" ++ decimal g)

unfoldable pub condition_text : Naming → Condition → Text
condition_text names = fold-Condition Text (condition_layer names)

-- ---- conjuncts

-- all that must be true
abbrev pub conjuncts_text : Naming → List Condition → Text
conjuncts_text names [] = codes "true"
conjuncts_text names (c ∷ C) = join_by (condition_text names) (codes " AND ") (c ∷ C)
