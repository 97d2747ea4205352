use Rattle.std.proofs.Common.{List, ℕ, subst}
use Rattle.std.proofs.lemmas.Result.{on_ok_weaker}
use Rattle.algebra.specs.declared.expr.Aggregation.{Aggregation}
use Rattle.physical.specs.declared.plan.Operator.TheVariants.{GroupRows}
use Rattle.labels.specs.Nodes.{Adds, holds_if_fit}
use Rattle.labels.proofs.nodes.push_group.Goals as goal

pub returns : goal.returns
returns c =
    let old = c.args.nodes.now.items in
    let new = c.push_fitting.new.nodes.items in
    on_ok_weaker c.push_fitting.result (λ adds.
    subst (λ (G : List Aggregation). Adds old new (λ p. holds_if_fit c.args.of p (GroupRows c.args.method c.args.keys.now G))) c.in_ok-added.ensures
    (subst (λ (K : List ℕ). Adds old new (λ p. holds_if_fit c.args.of p (GroupRows c.args.method K c.in_ok-added.added))) c.in_ok-keys.ensures adds)) c.push_fitting.ensures
