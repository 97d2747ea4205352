use Rattle.std.proofs.Common.{sym, subst, List, map, IfOk}
use Rattle.algebra.specs.declared.condition.Condition.{Condition}
use Rattle.algebra.specs.Bags.{select}
use Rattle.algebra.specs.Conditions.{holds}
use Rattle.physical.specs.declared.plan.Operator.{Operator}
use Rattle.physical.specs.Indexes.{accessed_columns, accessed_rows}
use Rattle.physical.specs.Outputs.{first, rest, first_columns, second_columns, no_classes, operator_columns, operator_rows}
use Rattle.plan_reads.specs.Readings.{IsReading}
use Rattle.plan_reads.proofs.KnownReadings.{first-reads, second-reads}
use Rattle.plan_reads.proofs.OperatorReadings.{distinct-reads}
use Rattle.plan_reads.proofs.plans.operator_reading.Goals as goal

pub returns-in-Filter : goal.returns-in-Filter
returns-in-Filter c = λ D all are.
    let K = first_columns (map (λ x. x.columns) all) in
    subst (λ (o : Operator). IfOk c.filtered.result (IsReading (operator_columns c.args.instances.now o (map (λ x. x.columns) all)) (operator_rows c.args.instances.now D o all))) (sym c.in-Filter.is)
    (subst (λ (C : List Condition). IfOk c.filtered.result (IsReading K (select (holds no_classes C) (first all)))) c.as_slice.ensures.conditions
    (c.filtered.ensures K (first all) (subst (IsReading K (first all)) (sym c.in_ok-input.ensures) (first-reads all c.args.inputs.now are))))

pub returns-in_ok-right-in-JoinRows : goal.returns-in_ok-right-in-JoinRows
returns-in_ok-right-in-JoinRows c = λ D all are.
    let columns = map (λ x. x.columns) all in
    subst (λ (o : Operator). IfOk c.joined.result (IsReading (operator_columns c.args.instances.now o columns) (operator_rows c.args.instances.now D o all))) (sym c.in-JoinRows.is)
    (c.joined.ensures (first_columns columns) (second_columns columns) (first all) (first (rest all))
    (subst (IsReading (first_columns columns) (first all)) (sym c.in_ok-input.ensures) (first-reads all c.args.inputs.now are))
    (subst (IsReading (second_columns columns) (first (rest all))) (sym c.in_ok-right-in-JoinRows.ensures) (second-reads all c.args.inputs.now are)))

pub returns-in_ok-right-in-IndexJoin : goal.returns-in_ok-right-in-IndexJoin
returns-in_ok-right-in-IndexJoin c = λ D all are.
    let columns = map (λ x. x.columns) all in
    let access = c.in-IndexJoin.access in
    subst (λ (o : Operator). IfOk c.joined-in-IndexJoin.result (IsReading (operator_columns c.args.instances.now o columns) (operator_rows c.args.instances.now D o all))) (sym c.in-IndexJoin.is)
    (c.joined-in-IndexJoin.ensures (first_columns columns) (accessed_columns c.args.instances.now access) (first all) (accessed_rows c.args.instances.now D access)
    (subst (IsReading (first_columns columns) (first all)) (sym c.in_ok-input.ensures) (first-reads all c.args.inputs.now are))
    (c.in_ok-right-in-IndexJoin.ensures D))

pub returns-in-DistinctRows : goal.returns-in-DistinctRows
returns-in-DistinctRows c = λ D all are.
    let columns = map (λ x. x.columns) all in
    subst (λ (o : Operator). IsReading (operator_columns c.args.instances.now o columns) (operator_rows c.args.instances.now D o all) c.in_ok-input.input) (sym c.in-DistinctRows.is)
    (distinct-reads (first_columns columns) (first all) c.in_ok-input.input
    (subst (IsReading (first_columns columns) (first all)) (sym c.in_ok-input.ensures) (first-reads all c.args.inputs.now are)))

pub returns-in-IndexScan : goal.returns-in-IndexScan
returns-in-IndexScan c = λ D all are.
    let columns = map (λ x. x.columns) all in
    subst (λ (o : Operator). IfOk c.index_scanned.result (IsReading (operator_columns c.args.instances.now o columns) (operator_rows c.args.instances.now D o all))) (sym c.in-IndexScan.is) (c.index_scanned.ensures D)
