-- From bytes to a plan explained, and over what it is the cheapest.
use Rattle.std.specs.Prelude.{◌≡◌, ℕ, Bool, true, false, List, [], ◌++◌, length, reverse, codes, decimal}
use Rattle.schema.specs.declared.schema.Schema.{Schema}
use Rattle.statistics.specs.declared.counts.Statistics.{Statistics}
use Rattle.query.specs.declared.query.Query.{Query}
use Rattle.certificate.specs.declared.certificate.Certificate.{Certificate}
use Rattle.certificate.specs.Replay.{IsChecked}
use Rattle.closure.specs.Closed.{IsClosed}
use Rattle.labels.specs.declared.goal.Label.{Label}
use Rattle.planner.specs.declared.planned.Exploration.{Exploration}
use Rattle.planner.specs.NotDearer.{certificate_cost}
use Rattle.planner.specs.Searched.{IsToldOf}
use Rattle.pipeline.specs.declared.explained.PlanForm.{PlanForm}
use Rattle.pipeline.specs.declared.explained.PlanForm.TheVariants.{Text, Graph, Json}
use Rattle.pipeline.specs.Explained.{plan_in}
use Rattle.pipeline.specs.Least.{ShowLeast, IsCheapest, IsCounted}

-- what a line that is no part of the plan begins and ends with: in a graph it is a comment, behind JSON a value of its own
abbrev pub mark_before : PlanForm → List ℕ
mark_before Text = []
mark_before Graph = codes "// "
mark_before Json = codes "\""

abbrev pub mark_behind : PlanForm → List ℕ
mark_behind Text = []
mark_behind Graph = []
mark_behind Json = codes "\""

-- over how many goals and lines a plan is the cheapest; it says that the lines are closed, or how many there are
abbrev pub least_words : ℕ → ℕ → Bool → List ℕ
least_words goals lines true = codes "least of " ++ (decimal goals ++ (codes " goals over " ++ (decimal lines ++ codes " lines, closed")))
least_words goals lines false = codes "least of " ++ (decimal goals ++ (codes " goals, not closed at " ++ (decimal lines ++ codes " lines")))

abbrev pub least_line : PlanForm → ℕ → ℕ → Bool → List ℕ
least_line form goals lines is_closed = mark_before form ++ (least_words goals lines is_closed ++ (mark_behind form ++ codes "\n"))

-- the plan of a checked certificate, and a line that says by how many labels it is the cheapest plan of how many lines
pub record IsLeastShown (form : PlanForm) (S : Schema) (q : Query) (s : Statistics) (limit : ℕ) (exploration : Exploration) (written : List ℕ) : Type 0 where
  pub certificate : Certificate
  pub checked : IsChecked S q certificate
  -- all lines of the search, and the plan over them
  pub searched : Certificate
  pub all_checked : IsChecked S q searched
  pub cost : certificate_cost s q certificate ≡ certificate_cost s q searched
  -- of the plans that these lines offer none costs less, as the labels show
  pub labels : List Label
  pub shown : ShowLeast s q searched labels
  pub least : IsCheapest s q searched
  -- no rule adds anything to the lines where it is said so; where they were to be explored to the limit and aren't closed, there are as many
  pub is_closed : Bool
  pub closed : is_closed ≡ true → IsClosed q.tables (reverse searched.lines)
  pub told : is_closed ≡ false → IsToldOf exploration limit searched.lines
  pub written_is : written ≡ plan_in form s q certificate ++ least_line form (length labels) (length searched.lines) is_closed

-- so it is of the query that is asked, by statistics of the schema
pub record IsExplainedLeast (form : PlanForm) (schema text statistics : List ℕ) (limit : ℕ) (exploration : Exploration) (written : List ℕ) : Type 0 where
  pub asked : IsCounted schema text statistics
  pub by : IsLeastShown form asked.S asked.query asked.counts limit exploration written
