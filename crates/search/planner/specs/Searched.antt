-- A search for the plan of a query: lines behind those of its frame, and the cheapest plan that they offer.
use Rattle.std.specs.Prelude.{◌≡◌, ◌⊎◌, ℕ, ◌≤◌, true, false, List, [], ◌++◌, length, map, max, reverse, Ok}
use Rattle.query.specs.declared.query.Query.{Query}
use Rattle.query.specs.Bound.{is_bound}
use Rattle.frame.specs.Frames.{query_frame}
use Rattle.frame.specs.FormedFrames.{own_aggregates}
use Rattle.derivation.specs.declared.line.Line.{Line}
use Rattle.derivation.specs.declared.line.Line.TheVariants.{Founds}
use Rattle.derivation.specs.Logs.{Log}
use Rattle.logs.specs.Logged.{Logged}
use Rattle.statistics.specs.declared.counts.Statistics.{Statistics}
use Rattle.costs.specs.Costs.{plan_cost}
use Rattle.bindings.specs.Lean.{IsLean, named_by}
use Rattle.closure.specs.Closed.{IsClosed}
use Rattle.certificate.specs.QueryOrders.{query_order}
use Rattle.certificate.specs.Replay.{lines_replay, replayed, root}
use Rattle.trimming.specs.Part.{IsPart}
use Rattle.planner.specs.Canonical.{IsCanonical, IsOnlyCanonical}
use Rattle.planner.specs.NotDearer.{IsNotDearer, certificate_cost}
use Rattle.planner.specs.declared.planned.Planned.{Planned}
use Rattle.planner.specs.declared.searching.Planning.{Planning}
use Rattle.labels.specs.declared.goal.Goal.{Goal}
use Rattle.labels.specs.Labels.{Labelled}
use Rattle.winners.specs.declared.least.BestPlan.{BestPlan}
use Rattle.planner.specs.declared.planned.Exploration.{Exploration}
use Rattle.planner.specs.declared.searching.Searched.{Searched}
use Rattle.planner.specs.declared.planned.Exploration.TheVariants.{ToLimit, WhileWorthwhile}

-- the rows of the query's class, in the order of its ORDER BY
abbrev pub root_goal : Query → Goal
root_goal q = record { class = root q; order = query_order q }

-- what a query is planned by
pub record IsReady (p : Planning) : Type 0 where
  pub bound : is_bound p.query.now ≡ true
  pub known : IsCanonical p.query.now p.known.now
  pub replays : replayed p.query.now p.known.now ≡ Ok p.known.now
  pub only : IsOnlyCanonical p.query.now p.known.now

-- the lines of the query's frame
abbrev pub frame_lines : Query → Log
frame_lines q = map Founds (reverse (query_frame q))

-- a log of these alone
abbrev pub framed : Query → Logged
framed q = record { instances = q.tables; own = own_aggregates q; log = frame_lines q }

-- lines over the query's table instances and aggregates, behind those of its frame
pub record IsLogOf (q : Query) (l : Logged) : Type 0 where
  pub instances : l.instances ≡ q.tables
  pub own : l.own ≡ own_aggregates q
  pub rest : List Line
  pub log_is : l.log ≡ rest ++ frame_lines q

-- behind those of the frame each line says something new, and what one founds a later result names, or is made of; the last two lines may wait for one
abbrev pub IsLeanBehind : Query → Log → Type 0
IsLeanBehind q E = IsLean q.tables named_by (length (query_frame q)) E

-- no line is added past the limit to those of the frame
abbrev pub IsWithinLimit : Query → ℕ → List Line → Type 0
IsWithinLimit q limit lines = length lines ≤ max limit (length (query_frame q))

-- the cheapest plan of the query that lines offer, as its labels show, and what it costs
pub record IsBest (S : Statistics) (q : Query) (E : Log) (b : BestPlan) : Type 0 where
  pub labelled : Labelled S q.tables E (root_goal q) b.plan b.labels
  pub cost : b.cost ≡ plan_cost S q.tables E b.plan

-- what a search found: lines of the query, the cheapest plan of those, and that no rule adds anything to them where it is said so
pub record IsSearched (S : Statistics) (q : Query) (limit : ℕ) (found : Searched) : Type 0 where
  pub log : IsLogOf q found.log
  pub within : IsWithinLimit q limit found.log.log
  pub lean : IsLeanBehind q found.log.log
  pub best : IsBest S q found.log.log found.best
  pub closed : found.is_complete ≡ true → IsClosed q.tables found.log.log

-- lines that were to be explored to the limit are so many
abbrev pub IsToldOf : Exploration → ℕ → List Line → Type 0
IsToldOf ToLimit limit lines = limit ≤ length lines
IsToldOf WhileWorthwhile limit lines = Unit {0}

-- What is planned for a query.
pub record IsPlanned (S : Statistics) (q : Query) (limit : ℕ) (exploration : Exploration) (p : Planned) : Type 0 where
  -- the lines of the search are a derivation of the query, none of them past the limit
  pub lines : lines_replay q [] p.log ≡ Ok (reverse p.log)
  pub within : IsWithinLimit q limit p.log
  -- and so that nothing is said twice, or founded for nothing
  pub lean : IsLeanBehind q (reverse p.log)
  -- no plan of the query that they offer costs less than this one, as its labels show
  pub labelled : Labelled S q.tables (reverse p.log) (root_goal q) p.plan p.labels
  pub least : p.cost ≡ plan_cost S q.tables (reverse p.log) p.plan
  -- all lines and the plan are a certificate too
  pub whole : replayed q (record { lines = p.log; plan = p.plan }) ≡ Ok (record { lines = p.log; plan = p.plan })
  -- they are said to be complete only where no rule adds anything to them; where they were to be explored to the limit and aren't, there are as many
  pub closed : p.is_complete ≡ true → IsClosed q.tables (reverse p.log)
  pub told : p.is_complete ≡ false → IsToldOf exploration limit p.log
  -- the certificate is of a part of the lines and of the plan, or of all
  pub part : IsPart (reverse p.log) p.plan p.certificate ⊎ (p.certificate ≡ record { lines = p.log; plan = p.plan })
  pub replays : replayed q p.certificate ≡ Ok p.certificate
  -- over its own lines the plan costs as much, and no more than the canonical one
  pub cost : p.cost ≡ certificate_cost S q p.certificate
  pub cheap : IsNotDearer S q p.certificate
