use Rattle.std.proofs.Common.{}
use Rattle.std.proofs.lemmas.Result.{on_ok_weaker}
use Rattle.physical.specs.declared.plan.GroupMethod.TheVariants as group
use Rattle.physical.specs.declared.plan.Operator.TheVariants.{GroupRows}
use Rattle.labels.specs.Nodes.{holds_if_fit}
use Rattle.labels.proofs.NodeLists.{both-more}
use Rattle.labels.proofs.nodes.push_groups.Goals as goal

pub returns : goal.returns
returns c = on_ok_weaker c.push_group-2.result (λ adds.
    both-more (λ p. holds_if_fit c.args.of p (GroupRows group.Hash c.args.keys.now c.args.added.now)) (λ p. holds_if_fit c.args.of p (GroupRows group.Sorted c.args.keys.now c.args.added.now))
    c.args.nodes.now.items c.push_group.new.nodes.items c.push_group-2.new.nodes.items c.in_ok-push_group.ensures adds) c.push_group-2.ensures
