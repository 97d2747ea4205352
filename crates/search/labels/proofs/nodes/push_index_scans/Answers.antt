use Rattle.std.proofs.Common.{◌||◌, not, arith}
use Rattle.physical.specs.declared.plan.Operator.TheVariants.{IndexScan}
use Rattle.certificate.specs.Replay.{accesses}
use Rattle.labels.specs.Nodes.{holds_if_fit}
use Rattle.labels.proofs.NodeLists.{all-more, read-more, none-yet}
use Rattle.labels.proofs.nodes.push_index_scans.Goals as goal

pub loop-access-init : goal.loop-access-init
loop-access-init c = none-yet (λ p a. not (accesses c.args.of.derived.log.now.log a c.args.class) || holds_if_fit c.args.of p (IndexScan a c.args.own.now)) c.args.of.accesses.now c.args.nodes.now.items

pub loop-access-preserved : goal.loop-access-preserved
loop-access-preserved c =
    read-more (λ p a. not (accesses c.args.of.derived.log.now.log a c.args.class) || holds_if_fit c.args.of p (IndexScan a c.args.own.now)) c.args.of.accesses.now
    c.args.nodes.now.items c.loop-access.nodes.items c.push_index_scan.new.nodes.items c.loop-access.access-index _ c.loop-access-test.true c.loop-access.invariant c.in_ok-push_index_scan.ensures

pub returns : goal.returns
returns c =
    all-more (λ p a. not (accesses c.args.of.derived.log.now.log a c.args.class) || holds_if_fit c.args.of p (IndexScan a c.args.own.now)) c.args.of.accesses.now
    c.args.nodes.now.items c.loop-access.nodes.items c.loop-access.access-index (omega arith) c.loop-access.invariant
