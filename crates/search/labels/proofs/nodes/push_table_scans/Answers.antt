use Rattle.std.proofs.Common.{◌||◌, ◌==◌, [], not, arith}
use Rattle.std.specs.List.{list_all}
use Rattle.physical.specs.declared.plan.Operator.TheVariants.{IndexScan, Scan}
use Rattle.labels.specs.Nodes.{holds_if_fit}
use Rattle.labels.proofs.NodeLists.{all-more, both-more, read-more, none-yet}
use Rattle.labels.proofs.nodes.push_table_scans.Goals as goal

pub loop-access-init : goal.loop-access-init
loop-access-init c = none-yet (λ p a. not (a.line == c.args.of.line) || holds_if_fit c.args.of p (IndexScan a [])) c.args.of.accesses.now c.push_fitting.new.nodes.items

pub loop-access-preserved : goal.loop-access-preserved
loop-access-preserved c =
    read-more (λ p a. not (a.line == c.args.of.line) || holds_if_fit c.args.of p (IndexScan a [])) c.args.of.accesses.now
    c.push_fitting.new.nodes.items c.loop-access.nodes.items c.push_own_scan.new.nodes.items c.loop-access.access-index _ c.loop-access-test.true c.loop-access.invariant c.in_ok-push_own_scan.ensures

pub returns : goal.returns
returns c =
    both-more (λ p. holds_if_fit c.args.of p (Scan c.args.instance)) (λ p. list_all (λ a. not (a.line == c.args.of.line) || holds_if_fit c.args.of p (IndexScan a [])) c.args.of.accesses.now)
    c.args.nodes.now.items c.push_fitting.new.nodes.items c.loop-access.nodes.items c.in_ok-push_fitting.ensures
    (all-more (λ p a. not (a.line == c.args.of.line) || holds_if_fit c.args.of p (IndexScan a [])) c.args.of.accesses.now
    c.push_fitting.new.nodes.items c.loop-access.nodes.items c.loop-access.access-index (omega arith) c.loop-access.invariant)
