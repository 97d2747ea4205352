-- From bytes to the bytes of an answer, and what was measured of the plan that gave it.
use Rattle.std.specs.Prelude.{◌≡◌, ℕ, false, List, [], Option, Some, None, reverse}
use Rattle.schema.specs.declared.schema.Schema.{Schema}
use Rattle.schema.specs.Databases.{Database}
use Rattle.statistics.specs.declared.counts.Statistics.{Statistics}
use Rattle.statistics.specs.declared.counts.TableColumn.{TableColumn}
use Rattle.statistics.specs.Counting.{counts_of}
use Rattle.query.specs.declared.query.Query.{Query}
use Rattle.query.specs.declared.query.TableInstance.{TableInstance}
use Rattle.query.specs.Rows.{tables_of}
use Rattle.algebra.specs.declared.expr.Aggregation.{Aggregation}
use Rattle.frame.specs.FormedFrames.{own_aggregates}
use Rattle.derivation.specs.Logs.{Log}
use Rattle.physical.specs.declared.plan.Plan.{Plan}
use Rattle.certificate.specs.declared.certificate.Certificate.{Certificate}
use Rattle.measures.specs.declared.measured.Measure.{Measure}
use Rattle.measures.specs.Measures.{AreMeasured, plans_run}
use Rattle.explain.specs.LogPlans.{explained, json}
use Rattle.pipeline.specs.declared.measured.ReportForm.{ReportForm}
use Rattle.pipeline.specs.declared.measured.ReportForm.TheVariants.{Text, Json}
use Rattle.pipeline.specs.EndToEnd.{ByCertificate, Input, IsAnswerText, IsByPlan}

-- a plan over the lines of a log, with what was measured of its nodes
abbrev pub reported : ReportForm → Statistics → List TableInstance → List Aggregation → Log → List (Option Measure) → Plan → List ℕ
reported Text s instances own E measures p = explained s instances own E measures p
reported Json s instances own E measures p = json s instances own E measures p

-- the plan of a certificate, over the certificate's own lines
abbrev pub report_in : ReportForm → Statistics → Query → List (Option Measure) → Certificate → List ℕ
report_in form s q measures c = reported form s q.tables (own_aggregates q) (reverse c.lines) measures c.plan

-- the plan of a certificate over a database: it is estimated by the database's own counts, and the rows of its nodes are counted
pub record IsReport (form : ReportForm) (S : Schema) (q : Query) (D : Database) (c : Certificate) (report : List ℕ) : Type 0 where
  pub counted : List TableColumn
  pub measures : List (Option Measure)
  pub measured : AreMeasured q.tables (tables_of S D) (plans_run false c.plan) measures
  pub report_is : report ≡ report_in form (counts_of counted (record { schema = S; tables = D })) q measures c

-- nothing is reported where nothing was asked
abbrev pub IsReported : Option ReportForm → Schema → Query → Database → Certificate → List ℕ → Type 0
IsReported None S q D c report = report ≡ []
IsReported (Some form) S q D c report = IsReport form S q D c report

-- the text of the rows that the plan of a checked certificate gives is as said, and of that plan this is reported
abbrev pub ByMeasured : Option ReportForm → Schema → Query → Database → (List ℕ → Type 0) → List ℕ → Type 0
ByMeasured form S q D P report = (c : Certificate) × ByCertificate c S q D P × IsReported form S q D c report

-- some text of an answer is as said, whose rows are by a checked plan, of which this is reported
abbrev pub WithMeasured : Option ReportForm → List ℕ → List ℕ → List Input → (List ℕ → Type 0) → List ℕ → Type 0
WithMeasured form schema text inputs P report = (written : List ℕ) × (A : IsAnswerText schema text inputs written) × (B : IsByPlan A) × P written × IsReported form A.S A.query A.database B.certificate report
