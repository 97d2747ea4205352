use Rattle.std.proofs.Common.{◌&&◌, ◌||◌, not}
use Rattle.std.specs.List.{list_all}
use Rattle.std.proofs.lemmas.Result.{on_ok_weaker}
use Rattle.physical.specs.declared.plan.JoinMethod.TheVariants as join
use Rattle.physical.specs.declared.plan.Operator.TheVariants.{IndexJoin, JoinRows}
use Rattle.certificate.specs.Replay.{accesses}
use Rattle.labels.specs.Nodes.{holds_if_fit}
use Rattle.labels.proofs.NodeLists.{both-more}
use Rattle.labels.proofs.nodes.push_joins.Goals as goal

pub returns : goal.returns
returns c =
    let of = c.args.of in
    let j = c.args.matching.now in
    let old = c.args.nodes.now.items in
    let loops = c.push_join.new.nodes.items in
    let hashes = c.push_join-2.new.nodes.items in
    let new = c.push_index_joins.new.nodes.items in
    on_ok_weaker c.push_index_joins.result (λ adds.
    both-more (λ p. holds_if_fit of p (JoinRows join.NestedLoop j)) (λ p. holds_if_fit of p (JoinRows join.Hash j) && list_all (λ a. not (accesses of.derived.log.now.log a c.args.right) || holds_if_fit of p (IndexJoin a j)) of.accesses.now)
    old loops new c.in_ok-push_join.ensures
    (both-more (λ p. holds_if_fit of p (JoinRows join.Hash j)) (λ p. list_all (λ a. not (accesses of.derived.log.now.log a c.args.right) || holds_if_fit of p (IndexJoin a j)) of.accesses.now) loops hashes new c.in_ok-push_join-2.ensures adds)) c.push_index_joins.ensures
