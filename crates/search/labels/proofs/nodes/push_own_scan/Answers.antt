use Rattle.std.proofs.Common.{[], List, subst}
use Rattle.std.proofs.lemmas.Bool.{eq-eqb, ne_eqb}
use Rattle.std.proofs.lemmas.Result.{on_ok_weaker}
use Rattle.algebra.specs.declared.condition.Condition.{Condition}
use Rattle.physical.specs.declared.plan.Operator.TheVariants.{IndexScan}
use Rattle.labels.specs.Nodes.{Adds, holds_if_fit}
use Rattle.labels.proofs.NodeLists.{more-where, none-more}
use Rattle.labels.proofs.nodes.push_own_scan.Goals as goal

pub returns-then-access-of : goal.returns-then-access-of
returns-then-access-of c = none-more _ (λ p. holds_if_fit c.args.of p (IndexScan c.args.access [])) c.args.nodes.now.items (ne_eqb c.args.access.line c.args.of.line c.if-access-of.true)

pub returns : goal.returns
returns c =
    let old = c.args.nodes.now.items in
    let new = c.push_fitting.new.nodes.items in
    on_ok_weaker c.push_fitting.result (λ adds.
    more-where _ (λ p. holds_if_fit c.args.of p (IndexScan c.args.access [])) old new (eq-eqb c.args.access.line c.args.of.line c.if-access-of.false)
    (subst (λ (C : List Condition). Adds old new (λ p. holds_if_fit c.args.of p (IndexScan c.args.access C))) c.none-conjuncts.ensures adds)) c.push_fitting.ensures
