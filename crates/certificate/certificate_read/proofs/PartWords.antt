-- The texts that are written, with numbers in their ranges, are those that are read.
use Rattle.std.proofs.Common.{◌≡◌, ℕ, List, [], ◌∷◌, ◌++◌, flat_map, refl, ◌∙◌, ap, codes, decimal}
use Rattle.std.specs.List.{AllByRecursion}
use Rattle.query.specs.declared.query.Aggregate.{Aggregate}
use Rattle.query.specs.declared.query.Aggregate.TheVariants as by
use Rattle.algebra.specs.declared.expr.Aggregation.{Aggregation}
use Rattle.physical.specs.declared.plan.OrderKey.{OrderKey}
use Rattle.certificate_text.specs.Numerals.{numeral}
use Rattle.certificate_text.specs.Parts.{IsShort, AreShort}
use Rattle.certificate_text.specs.PartTexts as parts
use Rattle.certificate_text.specs.Spelled.{IsShortAggregate, IsShortAggregation}
use Rattle.certificate_text.proofs.DecimalNumerals.{short_decimal}
use Rattle.certificate_text.specs.CertificateText as text
use Rattle.certificate_text.specs.CertificateText.{Text, numbers_text, aggregate_text, aggregation_text, aggregations_text, keys_text, direction_text}
use Rattle.certificate_text.specs.Readable.{AreAggregations, AreShortKeys, IsShortKey}
use Rattle.certificate_read.specs.NodeReading.{key_text}

-- ---- the same texts

more_same : {X : Type 0} (f g : X → Text) (P : X → Type 0) → ((x : X) → P x → f x ≡ g x) → (xs : List X) → AllByRecursion P xs → flat_map (λ x. codes "," ++ f x) xs ≡ flat_map (λ x. codes "," ++ g x) xs
more_same f g P h [] all = refl
more_same f g P h (x ∷ xs) all = λ i. (codes "," ++ h x all.0 i) ++ more_same f g P h xs all.1 i

list_same : {X : Type 0} (f g : X → Text) (P : X → Type 0) → ((x : X) → P x → f x ≡ g x) → (xs : List X) → AllByRecursion P xs → parts.list_text f xs ≡ parts.list_text g xs
list_same f g P h [] all = refl
list_same f g P h (x ∷ xs) all = λ i. h x all.0 i ++ more_same f g P h xs all.1 i

text_same : {X : Type 0} (f : X → Text) (xs : List X) → text.list_text f xs ≡ parts.list_text f xs
text_same f [] = refl
text_same f (x ∷ xs) = refl

pub numbers_same : (ns : List ℕ) → AreShort ns → numbers_text ns ≡ parts.numbers_text ns
numbers_same ns short = text_same decimal ns ∙ list_same decimal numeral IsShort short_decimal ns short

aggregate_same : (a : Aggregate) → IsShortAggregate a → aggregate_text a ≡ parts.aggregate_text a
aggregate_same by.CountRows s = refl
aggregate_same (by.Count k) s = ap (λ t. codes "count:" ++ t) (short_decimal k s)
aggregate_same (by.Sum k) s = ap (λ t. codes "sum:" ++ t) (short_decimal k s)
aggregate_same (by.Min k) s = ap (λ t. codes "min:" ++ t) (short_decimal k s)
aggregate_same (by.Max k) s = ap (λ t. codes "max:" ++ t) (short_decimal k s)

aggregation_same : (a : Aggregation) → IsShortAggregation a → aggregation_text a ≡ parts.aggregation_text a
aggregation_same a s = λ i. short_decimal a.column s.0 i ++ (codes "=" ++ aggregate_same a.aggregate s.1 i)

pub aggregations_same : (G : List Aggregation) → AreAggregations G → aggregations_text G ≡ parts.aggregations_text G
aggregations_same G h = text_same aggregation_text G ∙ list_same aggregation_text parts.aggregation_text IsShortAggregation aggregation_same G h.0

pub keys_same : (K : List OrderKey) → AreShortKeys K → keys_text K ≡ parts.list_text key_text K
keys_same K h = text_same text.key_text K ∙ list_same text.key_text key_text IsShortKey (λ k s. ap (λ t. t ++ direction_text k.descending) (short_decimal k.column s)) K h
