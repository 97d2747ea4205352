use Rattle.std.proofs.Common.{}
use Rattle.std.proofs.lemmas.Result.{on_ok_weaker}
use Rattle.physical.specs.declared.plan.GroupMethod.TheVariants as group
use Rattle.physical.specs.declared.plan.Operator.TheVariants.{DistinctRows}
use Rattle.labels.specs.Nodes.{holds_if_fit}
use Rattle.labels.proofs.NodeLists.{both-more}
use Rattle.labels.proofs.nodes.push_distincts.Goals as goal

pub returns : goal.returns
returns c = on_ok_weaker c.push_fitting-2.result (λ adds.
    both-more (λ p. holds_if_fit c.args.of p (DistinctRows group.Hash)) (λ p. holds_if_fit c.args.of p (DistinctRows group.Sorted))
    c.args.nodes.now.items c.push_fitting.new.nodes.items c.push_fitting-2.new.nodes.items c.in_ok-push_fitting.ensures adds) c.push_fitting-2.ensures
