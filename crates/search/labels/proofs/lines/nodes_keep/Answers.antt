use Rattle.std.proofs.Common.{}
use Rattle.algebra.specs.Columns.{columns_at}
use Rattle.labels.specs.Nodes.{node_fits}
use Rattle.labels.proofs.Keeping.{at-list}
use Rattle.labels.proofs.lines.nodes_keep.Goals as goal

pub node_keeps-requires-clause-fits : goal.node_keeps-requires-clause-fits
node_keeps-requires-clause-fits c =
    let D = c.args.by.now.derived in
    at-list (node_fits D.log.now.instances D.log.now.log (columns_at D.columns.now)) c.args.nodes.now c.loop-node.node-index c.node-item.result c.loop-node-test.true c.node-item.is c.requires.fit
