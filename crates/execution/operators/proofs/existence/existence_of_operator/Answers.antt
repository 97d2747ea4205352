use Rattle.std.proofs.Common.{ap, subst, sym, ◌∙◌, map}
use Rattle.algebra.specs.Bags.{lay}
use Rattle.algebra.specs.Columns.{has}
use Rattle.physical.specs.declared.plan.Operator.{Operator}
use Rattle.physical.specs.Indexes.{accessed_columns, accessed_rows, index_order}
use Rattle.physical.specs.Outputs.{first, first_columns, operator_rows, rest, second_columns}
use Rattle.physical.specs.Sorts.{keys_order}
use Rattle.operators.specs.Existence.{Decides, has_some}
use Rattle.operators.proofs.SomeRows.{some-distinct, some-map, some-sorted}
use Rattle.operators.proofs.existence.existence_of_operator.Goals as goal

pub returns-in-IndexScan : goal.returns-in-IndexScan
returns-in-IndexScan c = λ instances D inputs e.
    ap (λ (o : Operator). has_some (operator_rows instances D o inputs e)) c.in-IndexScan.is ∙ some-sorted (keys_order (index_order instances c.in-IndexScan.access)) _

pub returns-in-Filter : goal.returns-in-Filter
returns-in-Filter c = λ instances D inputs e. ap (λ (o : Operator). has_some (operator_rows instances D o inputs e)) c.in-Filter.is

pub returns-in-Projection : goal.returns-in-Projection
returns-in-Projection c = λ instances D inputs e.
    ap (λ (o : Operator). has_some (operator_rows instances D o inputs e)) c.in-Projection.is ∙ some-map (λ r. lay (has c.in-Projection.columns) r e) (first inputs e)

pub returns-in-DistinctRows : goal.returns-in-DistinctRows
returns-in-DistinctRows c = λ instances D inputs e.
    let K = first_columns (map (λ x. x.columns) inputs) in
    ap (λ (o : Operator). has_some (operator_rows instances D o inputs e)) c.in-DistinctRows.is ∙ some-map (λ r. lay (has K) r e) _ ∙ some-distinct K (first inputs e)

pub returns-in-JoinRows : goal.returns-in-JoinRows
returns-in-JoinRows c =
    subst (λ (o : Operator). Decides c.existence_of_join.result (λ instances D. operator_rows instances D o)) (sym c.in-JoinRows.is)
    (c.existence_of_join.ensures (λ instances inputs. second_columns (map (λ x. x.columns) inputs)) (λ instances D inputs. first (rest inputs)))

pub returns-in-IndexJoin : goal.returns-in-IndexJoin
returns-in-IndexJoin c =
    subst (λ (o : Operator). Decides c.existence_of_join-in-IndexJoin.result (λ instances D. operator_rows instances D o)) (sym c.in-IndexJoin.is)
    (c.existence_of_join-in-IndexJoin.ensures (λ instances inputs. accessed_columns instances c.in-IndexJoin.access) (λ instances D inputs. accessed_rows instances D c.in-IndexJoin.access))
