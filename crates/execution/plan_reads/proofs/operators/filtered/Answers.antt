use Rattle.std.proofs.Common.{sym, subst, List, ℕ, [], IfOk}
use Rattle.algebra.specs.Bags.{select}
use Rattle.algebra.specs.Conditions.{holds}
use Rattle.physical.specs.Outputs.{subquery_rows}
use Rattle.plan_reads.specs.Readings.{IsReading, AreReadings}
use Rattle.plan_reads.proofs.operators.filtered.Goals as goal

pub returns : goal.returns
returns c = λ K x is.
    subst (λ (classes : List ℕ). IfOk c.filtered_over.result (IsReading K (select (holds (subquery_rows classes []) c.args.conditions.now) x))) c.none.ensures.classes
    (c.filtered_over.ensures K x [] is (subst (AreReadings []) (sym c.none.ensures.readings) tt))
