use Rattle.std.proofs.Common.{sym, subst, List, map, IfOk}
use Rattle.physical.specs.declared.plan.Node.{Node}
use Rattle.physical.specs.declared.plan.OrderKey.{OrderKey}
use Rattle.physical.specs.Outputs.{first, first_columns, node_columns, node_rows}
use Rattle.physical.specs.Sorts.{sorted, keys_order}
use Rattle.plan_reads.specs.Readings.{IsReading}
use Rattle.plan_reads.proofs.KnownReadings.{first-reads}
use Rattle.plan_reads.proofs.plans.node_reading.Goals as goal

pub returns-in_ok-input-in-Sort : goal.returns-in_ok-input-in-Sort
returns-in_ok-input-in-Sort c = λ D all are.
    let K = first_columns (map (λ x. x.columns) all) in
    subst (λ (node : Node). IfOk c.sorted.result (IsReading (node_columns c.args.instances.now node (map (λ x. x.columns) all)) (node_rows c.args.instances.now D node all))) (sym c.in-Sort.is)
    (subst (λ (keys : List OrderKey). IfOk c.sorted.result (IsReading K (λ e. sorted (keys_order keys) (first all e)))) c.as_slice.ensures
    (c.sorted.ensures K (first all) (subst (IsReading K (first all)) (sym c.in_ok-input-in-Sort.ensures) (first-reads all c.args.inputs.now are))))
