-- Certificates as text, from bytes.
use Rattle.std.proofs.Common.{◌≡◌, ℕ, List, Ok}
use Rattle.values.specs.declared.fault.Fault.{Fault}
use Rattle.values.specs.declared.fault.Fault.TheVariants as fault
use Rattle.values.specs.Faults.{Fails}
use Rattle.schema.specs.declared.schema.Schema.{Schema}
use Rattle.schema.specs.Reading.{schema_of}
use Rattle.statistics.specs.declared.fault.StatisticsRefusal.{StatisticsRefusal}
use Rattle.statistics.specs.Reading.{statistics_of}
use Rattle.query.specs.declared.query.Query.{Query}
use Rattle.certificate.specs.declared.certificate.Certificate.{Certificate}
use Rattle.certificate.specs.Replay.{IsChecked}
use Rattle.certificate_text.specs.declared.fault.TextRefusal.{TextRefusal}
use Rattle.certificate_text.specs.Limits.{written}
use Rattle.certificate_text.specs.Readable.{IsReadableCertificate}
use Rattle.pipeline.specs.declared.refusal.Refusal.{Refusal}
use Rattle.pipeline.specs.declared.refusal.Refusal.TheVariants as refusal
use Rattle.pipeline.specs.Certified.{AcceptsReadable}
use Rattle.pipeline.specs.EndToEnd.{Asks, IsNoQuery}
use Rattle.pipeline.specs.Planned.{WithChecked, IsUnwritten, IsNotPlanned}
use Rattle.pipeline.specs.Refusals.{of_statistics, of_certificate}

-- what is over a limit of texts
pub unwritten : (S : Schema) (q : Query) (c : Certificate) (f : Fault TextRefusal) → IsChecked S q c → Fails f (written c) → IsUnwritten S q (of_certificate f)
unwritten S q c fault.Memory checked fails = tt
unwritten S q c (fault.Refused r) checked fails = (c, checked, fails)

pub no_query_planned : (schema text statistics : List ℕ) (S : Schema) (r : Refusal) → schema_of schema ≡ Ok S → IsNoQuery text S r → IsNotPlanned schema text statistics r
no_query_planned schema text statistics S refusal.Memory is h = tt
no_query_planned schema text statistics S (refusal.Text r) is h = (S, is, h)
no_query_planned schema text statistics S (refusal.Scope r) is h = (S, is, h)
no_query_planned schema text statistics S (refusal.Schema r) is h = absurd h
no_query_planned schema text statistics S (refusal.Statistics r) is h = absurd h
no_query_planned schema text statistics S (refusal.Certificate r) is h = absurd h
no_query_planned schema text statistics S (refusal.Check r) is h = absurd h
no_query_planned schema text statistics S refusal.NotLeast is h = absurd h
no_query_planned schema text statistics S (refusal.Table n r) is h = absurd h
no_query_planned schema text statistics S (refusal.TableDevice n) is h = absurd h
no_query_planned schema text statistics S refusal.Output is h = absurd h
no_query_planned schema text statistics S refusal.TooManyRows is h = absurd h

pub no_statistics : (schema text statistics : List ℕ) (S : Schema) (q : Query) (f : Fault StatisticsRefusal) → Asks schema text S q → Fails f (statistics_of S statistics)
    → IsNotPlanned schema text statistics (of_statistics f)
no_statistics schema text statistics S q fault.Memory asks fails = tt
no_statistics schema text statistics S q (fault.Refused r) asks fails = (S, q, asks, fails)

pub unwritten_planned : (schema text statistics : List ℕ) (S : Schema) (q : Query) (r : Refusal) → Asks schema text S q → IsUnwritten S q r → IsNotPlanned schema text statistics r
unwritten_planned schema text statistics S q refusal.Memory asks h = tt
unwritten_planned schema text statistics S q (refusal.Certificate r) asks h = (S, q, asks, h)
unwritten_planned schema text statistics S q (refusal.Schema r) asks h = absurd h
unwritten_planned schema text statistics S q (refusal.Text r) asks h = absurd h
unwritten_planned schema text statistics S q (refusal.Scope r) asks h = absurd h
unwritten_planned schema text statistics S q (refusal.Statistics r) asks h = absurd h
unwritten_planned schema text statistics S q (refusal.Check r) asks h = absurd h
unwritten_planned schema text statistics S q refusal.NotLeast asks h = absurd h
unwritten_planned schema text statistics S q (refusal.Table n r) asks h = absurd h
unwritten_planned schema text statistics S q (refusal.TableDevice n) asks h = absurd h
unwritten_planned schema text statistics S q refusal.Output asks h = absurd h
unwritten_planned schema text statistics S q refusal.TooManyRows asks h = absurd h

-- what is written is accepted
pub planned_accepts : (schema text bytes : List ℕ) (S : Schema) (q : Query) → Asks schema text S q → WithChecked S q (λ c. (written c ≡ Ok bytes) × IsReadableCertificate c) → AcceptsReadable schema text bytes
planned_accepts schema text bytes S q asks found = (record { S = S; query = q; asks = asks; checked_is = found.0; is_certificate = found.2.0; checked = found.1 }, found.2.1)
