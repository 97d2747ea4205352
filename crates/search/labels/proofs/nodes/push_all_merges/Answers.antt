use Rattle.std.proofs.Common.{ℕ, Option, subst, arith}
use Rattle.algebra.specs.Equated.{equated}
use Rattle.labels.specs.Candidates.{merges_hold}
use Rattle.labels.specs.Nodes.{Adds, holds_if_fit}
use Rattle.labels.proofs.NodeLists.{all-more, next-more, none-yet}
use Rattle.labels.proofs.nodes.push_all_merges.Goals as goal

pub loop-condition-init : goal.loop-condition-init
loop-condition-init c = none-yet (λ p k. merges_hold (holds_if_fit c.args.of p) c.args.matching.now (equated k)) c.args.conditions.now c.args.nodes.now.items

pub loop-condition-preserved : goal.loop-condition-preserved
loop-condition-preserved c =
    let mid = c.loop-condition.nodes.items in
    let new = c.push_merges.new.nodes.items in
    next-more (λ p k. merges_hold (holds_if_fit c.args.of p) c.args.matching.now (equated k)) c.args.conditions.now
    c.args.nodes.now.items mid new c.loop-condition.condition-index c.condition-item.result c.loop-condition-test.true c.condition-item.is c.loop-condition.invariant
    (subst (λ (pair : Option (ℕ × ℕ)). Adds mid new (λ p. merges_hold (holds_if_fit c.args.of p) c.args.matching.now pair)) c.equated.ensures c.in_ok-push_merges.ensures)

pub returns : goal.returns
returns c =
    all-more (λ p k. merges_hold (holds_if_fit c.args.of p) c.args.matching.now (equated k)) c.args.conditions.now
    c.args.nodes.now.items c.loop-condition.nodes.items c.loop-condition.condition-index (omega arith) c.loop-condition.invariant
