-- From bytes to the text of a certificate.
use Rattle.std.specs.Prelude.{◌≡◌, ℕ, List, Ok, Err}
use Rattle.schema.specs.declared.schema.Schema.{Schema}
use Rattle.schema.specs.Reading.{schema_of}
use Rattle.statistics.specs.declared.fault.StatisticsRefusal.{StatisticsRefusal}
use Rattle.statistics.specs.Reading.{statistics_of}
use Rattle.sql_parse.specs.Statements.{IsStatementFault}
use Rattle.query.specs.declared.query.Query.{Query}
use Rattle.certificate.specs.declared.certificate.Certificate.{Certificate}
use Rattle.certificate.specs.Replay.{IsChecked}
use Rattle.certificate_text.specs.declared.fault.TextRefusal.{TextRefusal}
use Rattle.certificate_text.specs.Limits.{written}
use Rattle.pipeline.specs.declared.refusal.Refusal.{Refusal}
use Rattle.pipeline.specs.declared.refusal.Refusal.TheVariants as refusal
use Rattle.pipeline.specs.EndToEnd.{Asks, IsUnbound}

-- some certificate that is checked against the query is as said
abbrev pub WithChecked : Schema → Query → (Certificate → Type 0) → Type 0
WithChecked S q P = (c : Certificate) × IsChecked S q c × P c

-- why no certificate was written: such a one is over a limit of texts
abbrev pub IsUnwritten : Schema → Query → Refusal → Type 0
IsUnwritten S q refusal.Memory = Unit {0}
IsUnwritten S q (refusal.Certificate r) = WithChecked S q (λ c. written c ≡ Err r)
IsUnwritten S q _ = ⊥

-- a query is asked, for which the bytes are no statistics of the schema
abbrev pub AreNoStatistics : List ℕ → List ℕ → List ℕ → StatisticsRefusal → Type 0
AreNoStatistics schema text statistics r = (S : Schema) × (q : Query) × Asks schema text S q × (statistics_of S statistics ≡ Err r)

abbrev pub IsOverLimit : List ℕ → List ℕ → TextRefusal → Type 0
IsOverLimit schema text r = (S : Schema) × (q : Query) × Asks schema text S q × WithChecked S q (λ c. written c ≡ Err r)

-- why there is no certificate: the first fault, in the order schema, text, scope, statistics, and then a limit of the text
abbrev pub IsNotPlanned : List ℕ → List ℕ → List ℕ → Refusal → Type 0
IsNotPlanned schema text statistics refusal.Memory = Unit {0}
IsNotPlanned schema text statistics (refusal.Schema r) = schema_of schema ≡ Err r
IsNotPlanned schema text statistics (refusal.Text r) = (S : Schema) × (schema_of schema ≡ Ok S) × IsStatementFault text r
IsNotPlanned schema text statistics (refusal.Scope r) = (S : Schema) × (schema_of schema ≡ Ok S) × IsUnbound text S r
IsNotPlanned schema text statistics (refusal.Statistics r) = AreNoStatistics schema text statistics r
IsNotPlanned schema text statistics (refusal.Certificate r) = IsOverLimit schema text r
IsNotPlanned schema text statistics (refusal.Check r) = ⊥
IsNotPlanned schema text statistics refusal.NotLeast = ⊥
IsNotPlanned schema text statistics (refusal.Table n r) = ⊥
IsNotPlanned schema text statistics (refusal.TableDevice n) = ⊥
IsNotPlanned schema text statistics refusal.Output = ⊥
IsNotPlanned schema text statistics refusal.TooManyRows = ⊥
