use Rattle.std.proofs.Common.{subst}
use Rattle.std.proofs.lemmas.Result.{on_ok_weaker}
use Rattle.physical.specs.declared.plan.Matching.{Matching}
use Rattle.physical.specs.declared.plan.Operator.TheVariants.{JoinRows}
use Rattle.labels.specs.Nodes.{Adds, holds_if_fit}
use Rattle.labels.proofs.nodes.push_join.Goals as goal

pub returns : goal.returns
returns c = on_ok_weaker c.push_fitting.result (λ adds.
    subst (λ (m : Matching). Adds c.args.nodes.now.items c.push_fitting.new.nodes.items (λ p. holds_if_fit c.args.of p (JoinRows c.args.method m))) c.in_ok-matching.ensures adds) c.push_fitting.ensures
