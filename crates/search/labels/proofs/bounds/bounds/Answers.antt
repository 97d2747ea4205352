use Rattle.std.proofs.Common.{List, ℕ, ap, sym, ◌∙◌, option_map}
use Rattle.query.specs.declared.query.TableInstance.{TableInstance}
use Rattle.algebra.specs.Columns.{columns_at}
use Rattle.costs.specs.declared.nodes.Estimate.{Estimate}
use Rattle.costs.specs.Cardinalities.{rows_at}
use Rattle.costs.specs.Costs.{inputs_of, node_cost, with_cut_costs}
use Rattle.labels.specs.Labels.{estimates_of}
use Rattle.labels.proofs.Bounding.{bound-by}
use Rattle.labels.proofs.bounds.bounds.Goals as goal

pub returns : goal.returns
returns c =
    let by = c.args.by.now in
    let L = by.derived.log.now in
    let S = by.statistics.now in
    let n = rows_at by.cardinalities in
    let l = c.args.label.now in
    let node = c.args.node.now in
    let rows = c.rows-rows.result in
    let inputs = c.inputs_of-inputs.result in
    bound-by S L.instances L.log (columns_at by.derived.columns.now) n by.labels.now l node c.in-Some.goals c.in-Some-2.estimates.items c.node_cost-cost.result (sym c.in_ok-goals.ensures ∙ c.in-Some.is)
    (ap (estimates_of n by.labels.now) (sym c.as_slice.ensures) ∙ sym c.in_ok-estimates.ensures ∙ ap (option_map (λ v. v.items)) c.in-Some-2.is)
    (c.node_cost-cost.ensures ∙ ap (λ (is : List TableInstance). node_cost S is node rows inputs) c.instances.ensures ∙ ap (λ (r : ℕ). node_cost S L.instances node r inputs) c.rows-rows.ensures
    ∙ ap (node_cost S L.instances node (n l.goal.class)) (c.inputs_of-inputs.ensures ∙ ap (λ (xs : List Estimate). with_cut_costs (inputs_of xs)) c.as_slice-2.ensures.value))
