-- Plans that are explained, from bytes.
use Rattle.std.proofs.Common.{◌≡◌, sym, ◌∙◌, ℕ, List, Ok, Err}
use Rattle.values.specs.declared.fault.Fault.{Fault}
use Rattle.values.specs.declared.fault.Fault.TheVariants as fault
use Rattle.values.specs.Faults.{Fails}
use Rattle.schema.specs.declared.schema.Schema.{Schema}
use Rattle.schema.specs.Reading.{schema_of}
use Rattle.statistics.specs.declared.counts.Statistics.{Statistics}
use Rattle.statistics.specs.declared.fault.StatisticsRefusal.{StatisticsRefusal}
use Rattle.statistics.specs.Reading.{statistics_of}
use Rattle.query.specs.declared.query.Query.{Query}
use Rattle.certificate.specs.declared.certificate.Certificate.{Certificate}
use Rattle.certificate.specs.declared.certificate.CheckRefusal.{CheckRefusal}
use Rattle.certificate.specs.Replay.{replayed}
use Rattle.pipeline.specs.declared.explained.PlanForm.{PlanForm}
use Rattle.pipeline.specs.declared.refusal.Refusal.{Refusal}
use Rattle.pipeline.specs.declared.refusal.Refusal.TheVariants as refusal
use Rattle.pipeline.specs.EndToEnd.{Asks, IsNoQuery}
use Rattle.pipeline.specs.Explained.{plan_in, IsExplained, IsNotExplained}
use Rattle.pipeline.specs.Planned.{WithChecked}
use Rattle.pipeline.specs.Refusals.{of_check, of_statistics}

-- a certificate that replays is refused only by running out of memory
pub only_memory : (f : Fault CheckRefusal) (q : Query) (V : Certificate) → replayed q V ≡ Ok V → Fails f (replayed q V) → of_check f ≡ refusal.Memory
only_memory fault.Memory q V ok fails = λ i. refusal.Memory
only_memory (fault.Refused r) q V ok fails = let e : Ok V ≡ Err r = sym ok ∙ fails in cc

pub no_query_explained : (schema text statistics : List ℕ) (S : Schema) (r : Refusal) → schema_of schema ≡ Ok S → IsNoQuery text S r → IsNotExplained schema text statistics r
no_query_explained schema text statistics S refusal.Memory is h = tt
no_query_explained schema text statistics S (refusal.Text r) is h = (S, is, h)
no_query_explained schema text statistics S (refusal.Scope r) is h = (S, is, h)
no_query_explained schema text statistics S (refusal.Schema r) is h = absurd h
no_query_explained schema text statistics S (refusal.Statistics r) is h = absurd h
no_query_explained schema text statistics S (refusal.Certificate r) is h = absurd h
no_query_explained schema text statistics S (refusal.Check r) is h = absurd h
no_query_explained schema text statistics S refusal.NotLeast is h = absurd h
no_query_explained schema text statistics S (refusal.Table n r) is h = absurd h
no_query_explained schema text statistics S (refusal.TableDevice n) is h = absurd h
no_query_explained schema text statistics S refusal.Output is h = absurd h
no_query_explained schema text statistics S refusal.TooManyRows is h = absurd h

pub not_counted : (schema text statistics : List ℕ) (S : Schema) (q : Query) (f : Fault StatisticsRefusal) → Asks schema text S q → Fails f (statistics_of S statistics)
    → IsNotExplained schema text statistics (of_statistics f)
not_counted schema text statistics S q fault.Memory asks fails = tt
not_counted schema text statistics S q (fault.Refused r) asks fails = (S, q, asks, fails)

pub is_explained : (form : PlanForm) (schema text statistics written : List ℕ) (S : Schema) (q : Query) (s : Statistics) → Asks schema text S q → statistics_of S statistics ≡ Ok s
    → WithChecked S q (λ c. written ≡ plan_in form s q c) → IsExplained form schema text statistics written
is_explained form schema text statistics written S q s asks are by = record { S = S; query = q; asks = asks; counts = s; are_counts = are; by = by }
