-- From bytes to a plan that is shown to be the cheapest.
use Rattle.std.specs.Prelude.{◌≡◌, ◌≤◌, ◌⊎◌, ℕ, List, reverse, Ok, Err}
use Rattle.std.specs.List.{AllByRecursion}
use Rattle.schema.specs.declared.schema.Schema.{Schema}
use Rattle.schema.specs.Reading.{schema_of}
use Rattle.statistics.specs.declared.counts.Statistics.{Statistics}
use Rattle.statistics.specs.Reading.{statistics_of}
use Rattle.sql_parse.specs.Statements.{IsStatementFault}
use Rattle.query.specs.declared.query.Query.{Query}
use Rattle.physical.specs.declared.plan.Plan.{Plan}
use Rattle.certificate.specs.declared.certificate.Certificate.{Certificate}
use Rattle.certificate.specs.QueryOrders.{query_order}
use Rattle.certificate.specs.Replay.{replayed, root, IsChecked}
use Rattle.certificate_text.specs.declared.fault.TextRefusal.{TextRefusal}
use Rattle.certificate_text.specs.Limits.{written}
use Rattle.certificate_text.specs.Readable.{IsReadableCertificate}
use Rattle.costs.specs.Costs.{plan_cost}
use Rattle.labels.specs.declared.goal.Label.{Label}
use Rattle.labels.specs.Labels.{Labelled}
use Rattle.labels.specs.Offers.{goal_of}
use Rattle.labels.specs.Plans.{Plans}
use Rattle.label_text.specs.LabelReading.{IsLeastFault}
use Rattle.label_text.specs.LabelText.{least_text, IsReadableLabel}
use Rattle.planner.specs.NotDearer.{certificate_cost}
use Rattle.planner.specs.Searched.{root_goal}
use Rattle.pipeline.specs.declared.refusal.Refusal.{Refusal}
use Rattle.pipeline.specs.declared.refusal.Refusal.TheVariants as refusal
use Rattle.pipeline.specs.Certified.{AcceptsReadable}
use Rattle.pipeline.specs.EndToEnd.{Asks, IsUnbound}
use Rattle.pipeline.specs.Planned.{AreNoStatistics, WithChecked}

-- ---- what is shown

-- the labels show of the certificate's plan that it is the cheapest for the query's goal: its class, in the order of its ORDER BY
abbrev pub ShowLeast : Statistics → Query → Certificate → List Label → Type 0
ShowLeast s q c labels = Labelled s q.tables (reverse c.lines) (root_goal q) c.plan labels

-- the plans that the certificate's lines offer for the query's goal
abbrev pub OffersPlan : Query → Certificate → Plan → Type 0
OffersPlan q c p = Plans q.tables (reverse c.lines) (goal_of (reverse c.lines) (root q) (query_order q)) p

-- none of them costs less than the certificate's own
abbrev pub IsCheapest : Statistics → Query → Certificate → Type 0
IsCheapest s q c = (p : Plan) → OffersPlan q c p → plan_cost s q.tables (reverse c.lines) c.plan ≤ plan_cost s q.tables (reverse c.lines) p

-- ---- what is accepted

-- the bytes are the text of this certificate with these labels behind it, which are within the limits
abbrev pub IsLabelledText : List ℕ → Certificate → List Label → Type 0
IsLabelledText bytes c labels = least_text c labels ≡ Ok bytes

-- a query is asked, and statistics of its schema are given
pub record IsCounted (schema text statistics : List ℕ) : Type 0 where
  pub S : Schema
  pub query : Query
  pub asks : Asks schema text S query
  pub counts : Statistics
  pub are_counts : statistics_of S statistics ≡ Ok counts

-- the bytes are the text of a certificate that is checked against the query, and of labels that show its plan to be the cheapest by the statistics
pub record AcceptsLeast (schema text statistics labelled : List ℕ) : Type 0 where
  pub asked : IsCounted schema text statistics
  pub certificate : Certificate
  pub labels : List Label
  pub is_text : IsLabelledText labelled certificate labels
  pub checked : IsChecked asked.S asked.query certificate
  pub shown : ShowLeast asked.counts asked.query certificate labels
  -- so no plan that its lines offer for the query's goal costs less
  pub least : IsCheapest asked.counts asked.query certificate

-- and these can be read
abbrev pub AcceptsReadableLeast : List ℕ → List ℕ → List ℕ → List ℕ → Type 0
AcceptsReadableLeast schema text statistics labelled = (a : AcceptsLeast schema text statistics labelled) × IsReadableCertificate a.certificate × AllByRecursion IsReadableLabel a.labels

-- ---- refusals

-- why labels don't show that the certificate's plan is the cheapest for the query: the first fault of its check, or that they don't where it is checked
abbrev pub IsLeastRefused : Statistics → Query → Certificate → List Label → Refusal → Type 0
IsLeastRefused s q c labels refusal.Memory = Unit {0}
IsLeastRefused s q c labels (refusal.Check r) = replayed q c ≡ Err r
IsLeastRefused s q c labels refusal.NotLeast = (replayed q c ≡ Ok c) × (ShowLeast s q c labels → ⊥)
IsLeastRefused s q c labels _ = ⊥

-- the bytes are the text of no certificate that can be read with labels that can
abbrev pub IsNoLabelledText : List ℕ → Type 0
IsNoLabelledText bytes = (c : Certificate) (labels : List Label) → IsReadableCertificate c → AllByRecursion IsReadableLabel labels → IsLabelledText bytes c labels → ⊥

-- so they are, and this is their first faulty line, and why
abbrev pub IsLabelledRefused : List ℕ → TextRefusal → Type 0
IsLabelledRefused labelled r = IsNoLabelledText labelled × IsLeastFault labelled r

-- a certificate and labels with this text are as said
abbrev pub WithLabelled : List ℕ → (Certificate → List Label → Type 0) → Type 0
WithLabelled labelled P = (c : Certificate) × (labels : List Label) × IsLabelledText labelled c labels × P c labels

-- why nothing is accepted: the first fault, in the order schema, text, scope, statistics, certificate and labels, check, and then that the labels don't show the plan to be the cheapest
abbrev pub IsNotLeast : List ℕ → List ℕ → List ℕ → List ℕ → Refusal → Type 0
IsNotLeast schema text statistics labelled refusal.Memory = Unit {0}
IsNotLeast schema text statistics labelled (refusal.Schema r) = schema_of schema ≡ Err r
IsNotLeast schema text statistics labelled (refusal.Text r) = (S : Schema) × (schema_of schema ≡ Ok S) × IsStatementFault text r
IsNotLeast schema text statistics labelled (refusal.Scope r) = (S : Schema) × (schema_of schema ≡ Ok S) × IsUnbound text S r
IsNotLeast schema text statistics labelled (refusal.Statistics r) = AreNoStatistics schema text statistics r
IsNotLeast schema text statistics labelled (refusal.Certificate r) = IsCounted schema text statistics × IsLabelledRefused labelled r
IsNotLeast schema text statistics labelled (refusal.Check r) = (a : IsCounted schema text statistics) × WithLabelled labelled (λ c labels. replayed a.query c ≡ Err r)
IsNotLeast schema text statistics labelled refusal.NotLeast = (a : IsCounted schema text statistics) × WithLabelled labelled (λ c labels. IsChecked a.S a.query c × (ShowLeast a.counts a.query c labels → ⊥))
IsNotLeast schema text statistics labelled (refusal.Table n r) = ⊥
IsNotLeast schema text statistics labelled (refusal.TableDevice n) = ⊥
IsNotLeast schema text statistics labelled refusal.Output = ⊥
IsNotLeast schema text statistics labelled refusal.TooManyRows = ⊥

-- ---- what is planned

-- the texts of two certificates that are checked against the query, their plans of the same cost; behind the second there are labels that show its plan to be
-- the cheapest. All that can be read
pub record ArePlannedTexts (S : Schema) (q : Query) (s : Statistics) (certificate labelled : List ℕ) : Type 0 where
  pub planned : Certificate
  pub planned_checked : IsChecked S q planned
  pub planned_is : written planned ≡ Ok certificate
  pub planned_readable : IsReadableCertificate planned
  pub searched : Certificate
  pub labels : List Label
  pub searched_checked : IsChecked S q searched
  pub searched_is : IsLabelledText labelled searched labels
  pub searched_readable : IsReadableCertificate searched
  pub labels_readable : AllByRecursion IsReadableLabel labels
  pub shown : ShowLeast s q searched labels
  pub cost : certificate_cost s q planned ≡ certificate_cost s q searched

-- a text that `check` accepts, and one that `check_least` accepts; the plan of the first costs as much as that of the second, each over its own lines
pub record AreLabelledTexts (schema text statistics certificate labelled : List ℕ) : Type 0 where
  pub planned : AcceptsReadable schema text certificate
  pub shown : AcceptsReadableLeast schema text statistics labelled
  pub cost : certificate_cost shown.0.asked.counts shown.0.asked.query planned.0.checked_is ≡ certificate_cost shown.0.asked.counts shown.0.asked.query shown.0.certificate

-- it is over a limit of texts: a certificate that is checked, or one with labels that show its plan to be the cheapest
abbrev pub AreOverLimit : Schema → Query → Statistics → TextRefusal → Type 0
AreOverLimit S q s r = WithChecked S q (λ c. (written c ≡ Err r) ⊎ ((labels : List Label) × ShowLeast s q c labels × (least_text c labels ≡ Err r)))

-- why nothing is written
abbrev pub IsUnlabelled : Schema → Query → Statistics → Refusal → Type 0
IsUnlabelled S q s refusal.Memory = Unit {0}
IsUnlabelled S q s (refusal.Certificate r) = AreOverLimit S q s r
IsUnlabelled S q s _ = ⊥

-- why there are no labels: the first fault, in the order schema, text, scope, statistics, and then a limit of the texts
abbrev pub IsNotLabelled : List ℕ → List ℕ → List ℕ → Refusal → Type 0
IsNotLabelled schema text statistics refusal.Memory = Unit {0}
IsNotLabelled schema text statistics (refusal.Schema r) = schema_of schema ≡ Err r
IsNotLabelled schema text statistics (refusal.Text r) = (S : Schema) × (schema_of schema ≡ Ok S) × IsStatementFault text r
IsNotLabelled schema text statistics (refusal.Scope r) = (S : Schema) × (schema_of schema ≡ Ok S) × IsUnbound text S r
IsNotLabelled schema text statistics (refusal.Statistics r) = AreNoStatistics schema text statistics r
IsNotLabelled schema text statistics (refusal.Certificate r) = (a : IsCounted schema text statistics) × AreOverLimit a.S a.query a.counts r
IsNotLabelled schema text statistics (refusal.Check r) = ⊥
IsNotLabelled schema text statistics refusal.NotLeast = ⊥
IsNotLabelled schema text statistics (refusal.Table n r) = ⊥
IsNotLabelled schema text statistics (refusal.TableDevice n) = ⊥
IsNotLabelled schema text statistics refusal.Output = ⊥
IsNotLabelled schema text statistics refusal.TooManyRows = ⊥
