use Rattle.std.proofs.Common.{◌∙◌, subst, List, IfOk}
use Rattle.algebra.specs.declared.condition.Condition.{Condition}
use Rattle.algebra.specs.Bags.{select}
use Rattle.algebra.specs.Conditions.{holds}
use Rattle.physical.specs.declared.plan.OrderKey.{OrderKey}
use Rattle.physical.specs.Indexes.{accessed_columns, accessed_rows}
use Rattle.physical.specs.Outputs.{no_classes}
use Rattle.physical.specs.Sorts.{sorted, keys_order}
use Rattle.plan_reads.specs.Readings.{IsReading}
use Rattle.plan_reads.proofs.plans.index_scanned.Goals as goal

pub returns : goal.returns
returns c = λ D.
    let K = accessed_columns c.args.instances.now c.args.access in
    let x = accessed_rows c.args.instances.now D c.args.access in
    subst (λ (keys : List OrderKey). IfOk c.sorted.result (IsReading K (λ e. sorted (keys_order keys) (select (holds no_classes c.args.conjuncts.now) x e)))) (c.as_slice-2.ensures.value ∙ c.in_ok-order.ensures)
    (c.sorted.ensures K (select (holds no_classes c.args.conjuncts.now) x)
    (subst (λ (C : List Condition). IsReading K (select (holds no_classes C) x) c.in_ok-kept.kept) c.as_slice.ensures.conditions (c.in_ok-kept.ensures K x (c.in_ok-table.ensures D))))
