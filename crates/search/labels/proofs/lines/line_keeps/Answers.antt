use Rattle.std.proofs.Common.{ap, ◌∙◌, map}
use Rattle.std.specs.List.{list_all}
use Rattle.algebra.specs.Columns.{columns_at}
use Rattle.labels.specs.Bounding.{keeps}
use Rattle.labels.specs.Nodes.{node_fits}
use Rattle.labels.proofs.Keeping.{fit-nodes, line-kept}
use Rattle.labels.proofs.lines.line_keeps.Goals as goal

pub nodes_keep-requires-clause-fit : goal.nodes_keep-requires-clause-fit
nodes_keep-requires-clause-fit c =
    let D = c.args.by.now.derived in
    ap (list_all (node_fits D.log.now.instances D.log.now.log (columns_at D.columns.now))) c.as_slice.ensures.value ∙ fit-nodes c.args.by.now c.args.line c.in_ok-nodes.nodes.items c.in_ok-nodes.ensures.fit

pub returns : goal.returns
returns c =
    let labels = map (λ l. l.now) c.args.labels.now in
    line-kept c.args.by.now labels c.args.line c.in_ok-nodes.nodes.items c.in_ok-keep.keep c.in_ok-nodes.ensures.each c.in_ok-nodes.ensures.fit
    (c.in_ok-keep.ensures ∙ ap (list_all (λ node. list_all (λ l. keeps c.args.by.now l node) labels)) c.as_slice.ensures.value)
