-- From bytes to a plan explained.
use Rattle.std.specs.Prelude.{◌≡◌, ℕ, List, [], reverse, Ok}
use Rattle.schema.specs.declared.schema.Schema.{Schema}
use Rattle.statistics.specs.declared.counts.Statistics.{Statistics}
use Rattle.statistics.specs.Reading.{statistics_of}
use Rattle.query.specs.declared.query.Query.{Query}
use Rattle.query.specs.declared.query.TableInstance.{TableInstance}
use Rattle.algebra.specs.declared.expr.Aggregation.{Aggregation}
use Rattle.frame.specs.FormedFrames.{own_aggregates}
use Rattle.derivation.specs.Logs.{Log}
use Rattle.physical.specs.declared.plan.Plan.{Plan}
use Rattle.certificate.specs.declared.certificate.Certificate.{Certificate}
use Rattle.explain.specs.LogPlans.{explained, graph, json}
use Rattle.pipeline.specs.declared.explained.PlanForm.{PlanForm}
use Rattle.pipeline.specs.declared.explained.PlanForm.TheVariants.{Text, Graph, Json}
use Rattle.pipeline.specs.declared.refusal.Refusal.{Refusal}
use Rattle.pipeline.specs.declared.refusal.Refusal.TheVariants as refusal
use Rattle.pipeline.specs.EndToEnd.{Asks}
use Rattle.pipeline.specs.Planned.{WithChecked, IsNotPlanned}

-- a plan over the lines of a log
abbrev pub shown : PlanForm → Statistics → List TableInstance → List Aggregation → Log → Plan → List ℕ
shown Text s instances own E p = explained s instances own E [] p
shown Graph s instances own E p = graph s instances own E p
shown Json s instances own E p = json s instances own E [] p

-- the plan of a certificate, with what the statistics say of it over the certificate's own lines
abbrev pub plan_in : PlanForm → Statistics → Query → Certificate → List ℕ
plan_in form s q c = shown form s q.tables (own_aggregates q) (reverse c.lines) c.plan

-- the plan of a certificate that is checked against the query, explained by statistics of the schema
pub record IsExplained (form : PlanForm) (schema text statistics written : List ℕ) : Type 0 where
  pub S : Schema
  pub query : Query
  pub asks : Asks schema text S query
  pub counts : Statistics
  pub are_counts : statistics_of S statistics ≡ Ok counts
  pub by : WithChecked S query (λ c. written ≡ plan_in form counts query c)

-- why nothing is explained: the first fault, in the order schema, text, scope, statistics
abbrev pub IsNotExplained : List ℕ → List ℕ → List ℕ → Refusal → Type 0
IsNotExplained schema text statistics refusal.Memory = Unit {0}
IsNotExplained schema text statistics (refusal.Schema r) = IsNotPlanned schema text statistics (refusal.Schema r)
IsNotExplained schema text statistics (refusal.Text r) = IsNotPlanned schema text statistics (refusal.Text r)
IsNotExplained schema text statistics (refusal.Scope r) = IsNotPlanned schema text statistics (refusal.Scope r)
IsNotExplained schema text statistics (refusal.Statistics r) = IsNotPlanned schema text statistics (refusal.Statistics r)
IsNotExplained schema text statistics (refusal.Certificate r) = ⊥
IsNotExplained schema text statistics (refusal.Check r) = ⊥
IsNotExplained schema text statistics refusal.NotLeast = ⊥
IsNotExplained schema text statistics (refusal.Table n r) = ⊥
IsNotExplained schema text statistics (refusal.TableDevice n) = ⊥
IsNotExplained schema text statistics refusal.Output = ⊥
IsNotExplained schema text statistics refusal.TooManyRows = ⊥
