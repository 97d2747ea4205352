-- Plans over the lines of a log, explained by statistics: the names are those of the query's table instances and its own aggregates, the
-- estimates those of the crate `costs`; what was measured of the nodes is given.
use Rattle.std.specs.Prelude.{List, Option}
use Rattle.query.specs.declared.query.TableInstance.{TableInstance}
use Rattle.algebra.specs.declared.expr.Aggregation.{Aggregation}
use Rattle.derivation.specs.Logs.{Log}
use Rattle.physical.specs.declared.plan.Plan.{Plan}
use Rattle.statistics.specs.declared.counts.Statistics.{Statistics}
use Rattle.costs.specs.Costs.{plan_estimates}
use Rattle.measures.specs.declared.measured.Measure.{Measure}
use Rattle.explain.specs.Names.{Text}
use Rattle.explain.specs.PlanTexts.{json_text, plan_text}
use Rattle.explain.specs.DotTexts.{dot_text}

abbrev pub explained : Statistics → List TableInstance → List Aggregation → Log → List (Option Measure) → Plan → Text
explained S instances own E measures p = plan_text (record { tables = instances; aggregates = own }) (plan_estimates S instances E p) measures p

abbrev pub json : Statistics → List TableInstance → List Aggregation → Log → List (Option Measure) → Plan → Text
json S instances own E measures p = json_text (record { tables = instances; aggregates = own }) (plan_estimates S instances E p) measures p

abbrev pub graph : Statistics → List TableInstance → List Aggregation → Log → Plan → Text
graph S instances own E p = dot_text (record { tables = instances; aggregates = own }) (plan_estimates S instances E p) p
