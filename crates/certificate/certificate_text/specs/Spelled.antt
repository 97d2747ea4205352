-- What a call gives of a text that spells a value within its ranges.
use Rattle.std.specs.Prelude.{◌≡◌, ℕ, ◌<◌, ℤ, Bool, ◌&&◌, ◌||◌, nat_le, List, map, FitsSigned, IsUtf8}
use Rattle.std.specs.Char.{is_ascii_digit}
use Rattle.std.specs.Int.{w64}
use Rattle.std.specs.List.{AllByRecursion}
use Rattle.hex.specs.Hex.{encode_lower}
use Rattle.values.specs.declared.value.Value.{Value}
use Rattle.values.specs.declared.value.Value.TheVariants as value
use Rattle.query.specs.declared.query.Aggregate.{Aggregate}
use Rattle.query.specs.declared.query.Aggregate.TheVariants as by
use Rattle.algebra.specs.declared.expr.Aggregation.{Aggregation}
use Rattle.algebra.specs.AggregateOrder.{AreByColumn}
use Rattle.algebra.specs.declared.condition.Term.{Term}
use Rattle.algebra.specs.declared.condition.Term.TheVariants as term
use Rattle.certificate_text.specs.PartTexts.{Text, aggregate_text, aggregation_text, aggregations_text, integer_text, part_term_text}
use Rattle.certificate_text.specs.Parts.{IsShort}

-- ---- aggregates

-- the column that it reads is within 32 bits
abbrev pub IsShortAggregate : Aggregate → Type 0
IsShortAggregate by.CountRows = Unit {0}
IsShortAggregate (by.Count k) = IsShort k
IsShortAggregate (by.Sum k) = IsShort k
IsShortAggregate (by.Min k) = IsShort k
IsShortAggregate (by.Max k) = IsShort k

abbrev pub IsShortAggregation : Aggregation → Type 0
IsShortAggregation a = IsShort a.column × IsShortAggregate a.aggregate

abbrev pub AreShortAggregations : List Aggregation → Type 0
AreShortAggregations G = AllByRecursion IsShortAggregation G

-- their columns are within 32 bits, and those that they add rise strictly
abbrev pub AreReadable : List Aggregation → Type 0
AreReadable G = AreShortAggregations G × AreByColumn G

abbrev pub SpellsAggregate : Text → Aggregate → Type 0
SpellsAggregate t a = t ≡ aggregate_text a

abbrev pub SpellsAggregation : Text → Aggregation → Type 0
SpellsAggregation t a = t ≡ aggregation_text a

-- each text is that of an aggregate with its column
abbrev pub SpellEachAggregation : List Text → List Aggregation → Type 0
SpellEachAggregation ts G = ts ≡ map aggregation_text G

-- a list of aggregates, with columns of any size, that rise strictly
abbrev pub SpellsAggregations : Text → List Aggregation → Type 0
SpellsAggregations t G = (t ≡ aggregations_text G) × AreByColumn G

-- ---- terms

-- a digit of hexadecimal, in lower case
abbrev pub is_lower_hex : ℕ → Bool
is_lower_hex b = is_ascii_digit b || (nat_le 97 b && nat_le b 102)

-- a number has 64 bits, and a text is one
abbrev pub IsReadableValue : Value → Type 0
IsReadableValue value.Null = Unit {0}
IsReadableValue (value.Int z) = FitsSigned w64 z
IsReadableValue (value.Text t) = IsUtf8 t

abbrev pub IsReadableTerm : Term → Type 0
IsReadableTerm (term.Column k) = IsShort k
IsReadableTerm (term.Literal v) = IsReadableValue v

-- what it has as a text is one
abbrev pub HasText : Term → Type 0
HasText (term.Column k) = Unit {0}
HasText (term.Literal value.Null) = Unit {0}
HasText (term.Literal (value.Int z)) = Unit {0}
HasText (term.Literal (value.Text t)) = IsUtf8 t

-- its number is in its range: 32 bits of a column, 64 bits of a literal
abbrev pub IsShortTerm : Term → Type 0
IsShortTerm (term.Column k) = IsShort k
IsShortTerm (term.Literal value.Null) = Unit {0}
IsShortTerm (term.Literal (value.Int z)) = FitsSigned w64 z
IsShortTerm (term.Literal (value.Text t)) = Unit {0}

abbrev pub SpellsInteger : Text → ℤ → Type 0
SpellsInteger w z = w ≡ integer_text z

abbrev pub SpellsBytes : Text → List ℕ → Type 0
SpellsBytes w t = (w ≡ encode_lower t) × AllByRecursion (λ b. b < 256) t

abbrev pub SpellsText : Text → List ℕ → Type 0
SpellsText w t = (w ≡ encode_lower t) × IsUtf8 t

abbrev pub SpellsTerm : Text → Term → Type 0
SpellsTerm w t = (w ≡ part_term_text t) × HasText t
