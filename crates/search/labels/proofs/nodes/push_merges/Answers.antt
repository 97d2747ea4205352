use Rattle.std.proofs.Common.{ℕ, Option, sym, subst}
use Rattle.std.proofs.lemmas.Result.{on_ok_weaker}
use Rattle.physical.specs.declared.plan.JoinMethod.TheVariants as join
use Rattle.physical.specs.declared.plan.Operator.TheVariants.{JoinRows}
use Rattle.labels.specs.Candidates.{merges_hold}
use Rattle.labels.specs.Nodes.{Adds, holds_if_fit}
use Rattle.labels.proofs.NodeLists.{both-more, nothing-more}
use Rattle.labels.proofs.nodes.push_merges.Goals as goal

pub returns-in_default : goal.returns-in_default
returns-in_default c =
    let old = c.args.nodes.now.items in
    subst (λ (pair : Option (ℕ × ℕ)). Adds old old (λ p. merges_hold (holds_if_fit c.args.of p) c.args.matching.now pair)) (sym c.in_default.is) (nothing-more old)

pub returns : goal.returns
returns c =
    let of = c.args.of in
    let j = c.args.matching.now in
    let old = c.args.nodes.now.items in
    let new = c.push_join-2.new.nodes.items in
    on_ok_weaker c.push_join-2.result (λ adds.
    subst (λ (pair : Option (ℕ × ℕ)). Adds old new (λ p. merges_hold (holds_if_fit of p) j pair)) (sym c.in-Some.is)
    (both-more (λ p. holds_if_fit of p (JoinRows (join.Merge c.in-Some.a c.in-Some.b) j)) (λ p. holds_if_fit of p (JoinRows (join.Merge c.in-Some.b c.in-Some.a) j))
    old c.push_join.new.nodes.items new c.in_ok-push_join.ensures adds)) c.push_join-2.ensures
