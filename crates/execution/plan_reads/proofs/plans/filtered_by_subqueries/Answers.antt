use Rattle.std.proofs.Common.{◌∙◌, sym, subst, List, ℕ, IfOk}
use Rattle.algebra.specs.declared.condition.Condition.{Condition}
use Rattle.algebra.specs.Bags.{select}
use Rattle.algebra.specs.Conditions.{holds}
use Rattle.physical.specs.Outputs.{rest, subquery_rows}
use Rattle.plan_reads.specs.Readings.{IsReading, AreReadings}
use Rattle.plan_reads.proofs.KnownReadings.{rest-reads}
use Rattle.plan_reads.proofs.plans.filtered_by_subqueries.Goals as goal

pub returns : goal.returns
returns c = λ K x all is are.
    subst (λ (classes : List ℕ). IfOk c.filtered_over.result (IsReading K (select (holds (subquery_rows classes (rest all)) c.args.conjuncts.now) x))) (c.as_slice.ensures.value ∙ c.in_ok-classes.ensures)
    (subst (λ (C : List Condition). IfOk c.filtered_over.result (IsReading K (select (holds (subquery_rows c.as_slice.result.now (rest all)) C) x))) c.as_slice-2.ensures.conditions
    (c.filtered_over.ensures K x (rest all) is (subst (AreReadings (rest all)) (sym c.behind_first.ensures) (rest-reads all c.args.inputs.now are))))
