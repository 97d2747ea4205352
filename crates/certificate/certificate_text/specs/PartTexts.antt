-- The texts of the parts of a line, with numbers of any size.
use Rattle.std.specs.Prelude.{◌≡◌, ◌==◌, ◌&&◌, nat_lt, ℕ, suc, ℤ, pos, negsuc, Bool, not, List, [], ◌∷◌, ◌++◌, codes}
use Rattle.std.specs.List.{join_by, list_all}
use Rattle.hex.specs.Hex.{encode_lower}
use Rattle.values.specs.declared.value.Value.TheVariants as value
use Rattle.query.specs.declared.query.Aggregate.{Aggregate}
use Rattle.query.specs.declared.query.Aggregate.TheVariants as by
use Rattle.algebra.specs.declared.condition.Term.{Term}
use Rattle.algebra.specs.declared.condition.Term.TheVariants as term
use Rattle.algebra.specs.declared.expr.Aggregation.{Aggregation}
use Rattle.certificate_text.specs.Numerals.{numeral}

abbrev pub Text : Type 0
Text = List ℕ

-- no byte of the text is the character
abbrev pub lacks : ℕ → Text → Bool
lacks c w = list_all (λ b. not (b == c)) w

-- a character of ASCII that can be seen, and isn't a space
abbrev pub is_graphic : ℕ → Bool
is_graphic b = nat_lt 32 b && nat_lt b 127

-- parts with commas between them; a list without parts is a dash
abbrev pub list_text : {X : Type 0} → (X → Text) → List X → Text
list_text part [] = codes "-"
list_text part (x ∷ xs) = join_by part (codes ",") (x ∷ xs)

abbrev pub numbers_text : List ℕ → Text
numbers_text = list_text numeral

-- what an aggregate computes, with the column that it reads
abbrev pub aggregate_text : Aggregate → Text
aggregate_text by.CountRows = codes "count"
aggregate_text (by.Count k) = codes "count:" ++ numeral k
aggregate_text (by.Sum k) = codes "sum:" ++ numeral k
aggregate_text (by.Min k) = codes "min:" ++ numeral k
aggregate_text (by.Max k) = codes "max:" ++ numeral k

-- the aggregate is the one of the name over the column
abbrev pub IsNamed : Aggregate → Text → ℕ → Type 0
IsNamed by.CountRows name k = ⊥
IsNamed (by.Count c) name k = (name ≡ codes "count") × (c ≡ k)
IsNamed (by.Sum c) name k = (name ≡ codes "sum") × (c ≡ k)
IsNamed (by.Min c) name k = (name ≡ codes "min") × (c ≡ k)
IsNamed (by.Max c) name k = (name ≡ codes "max") × (c ≡ k)

-- with the new column before it
abbrev pub aggregation_text : Aggregation → Text
aggregation_text a = numeral a.column ++ (codes "=" ++ aggregate_text a.aggregate)

abbrev pub aggregations_text : List Aggregation → Text
aggregations_text = list_text aggregation_text

-- a number with a minus or without one; there is no -0
abbrev pub integer_text : ℤ → Text
integer_text (pos n) = numeral n
integer_text (negsuc n) = codes "-" ++ numeral (suc n)

-- a term: a column, a number, the bytes of a text, or Null
abbrev pub part_term_text : Term → Text
part_term_text (term.Column k) = codes "c" ++ numeral k
part_term_text (term.Literal value.Null) = codes "n"
part_term_text (term.Literal (value.Int z)) = codes "i" ++ integer_text z
part_term_text (term.Literal (value.Text t)) = codes "t" ++ encode_lower t
