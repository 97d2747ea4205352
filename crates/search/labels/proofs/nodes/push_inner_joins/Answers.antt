use Rattle.std.proofs.Common.{List, subst}
use Rattle.std.specs.List.{list_all}
use Rattle.std.proofs.lemmas.Result.{on_ok_weaker}
use Rattle.algebra.specs.declared.condition.Condition.{Condition}
use Rattle.algebra.specs.Equated.{equated}
use Rattle.physical.specs.declared.plan.Matching.TheVariants.{Inner}
use Rattle.labels.specs.Candidates.{joins_hold, merges_hold}
use Rattle.labels.specs.Nodes.{Adds, holds_if_fit}
use Rattle.labels.proofs.NodeLists.{both-more}
use Rattle.labels.proofs.nodes.push_inner_joins.Goals as goal

pub returns : goal.returns
returns c =
    let of = c.args.of in
    let C = c.args.own.now in
    let old = c.args.nodes.now.items in
    let mid = c.push_joins.new.nodes.items in
    let new = c.push_all_merges.new.nodes.items in
    on_ok_weaker c.push_all_merges.result (λ adds.
    both-more (λ p. joins_hold (holds_if_fit of p) of.derived.log.now.log of.accesses.now (Inner C) c.args.right) (λ p. list_all (λ k. merges_hold (holds_if_fit of p) (Inner C) (equated k)) C) old mid new
    (subst (λ (D : List Condition). Adds old mid (λ p. joins_hold (holds_if_fit of p) of.derived.log.now.log of.accesses.now (Inner D) c.args.right)) c.in_ok-copy.ensures c.in_ok-push_joins.ensures)
    (subst (λ (D : List Condition). Adds mid new (λ p. list_all (λ k. merges_hold (holds_if_fit of p) (Inner D) (equated k)) C)) c.in_ok-copy.ensures
    (subst (λ (D : List Condition). Adds mid new (λ p. list_all (λ k. merges_hold (holds_if_fit of p) (Inner c.in_ok-copy.field-0) (equated k)) D)) c.as_slice.ensures.conditions adds))) c.push_all_merges.ensures
