use Rattle.std.proofs.Common.{ap, sym, ◌∙◌, ◌+◌, ◌*◌}
use Rattle.physical.specs.declared.plan.Operator.{Operator}
use Rattle.costs.specs.Numbers.{cut}
use Rattle.costs.specs.Costs.{operator_cost}
use Rattle.costs.proofs.Cuts.{cut-each}
use Rattle.costs.proofs.nodes.operator_cost.Goals as goal

pub returns-in-FilterSubqueries : goal.returns-in-FilterSubqueries
returns-in-FilterSubqueries c =
    let x = c.args.inputs in
    c.with_each.ensures
    ∙ ap (λ n. cut (x.first.cost + x.first.rows * n)) c.sum-in-FilterSubqueries.ensures
    ∙ cut-each x.first.cost x.first.rows (1 + x.later)
    ∙ sym (ap (λ (o : Operator). cut (operator_cost c.args.statistics.now c.args.instances.now o c.args.rows x)) c.in-FilterSubqueries.is)

pub returns-in-IndexJoin : goal.returns-in-IndexJoin
returns-in-IndexJoin c =
    let x = c.args.inputs in
    c.with_each-in-IndexJoin.ensures
    ∙ ap (λ n. cut (x.first.cost + x.first.rows * n)) c.probe_cost.ensures
    ∙ cut-each x.first.cost x.first.rows _
    ∙ sym (ap (λ (o : Operator). cut (operator_cost c.args.statistics.now c.args.instances.now o c.args.rows x)) c.in-IndexJoin.is)
