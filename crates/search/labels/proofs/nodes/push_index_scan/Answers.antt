use Rattle.std.proofs.Common.{List, sym, subst, ◌∙◌}
use Rattle.std.proofs.lemmas.Result.{on_ok_weaker}
use Rattle.algebra.specs.declared.condition.Condition.{Condition}
use Rattle.physical.specs.declared.plan.Operator.TheVariants.{IndexScan}
use Rattle.labels.specs.Nodes.{Adds, holds_if_fit}
use Rattle.labels.proofs.NodeLists.{more-where, none-more}
use Rattle.labels.proofs.nodes.push_index_scan.Goals as goal

pub returns-then-not-accesses : goal.returns-then-not-accesses
returns-then-not-accesses c = none-more _ (λ p. holds_if_fit c.args.of p (IndexScan c.args.access c.args.own.now)) c.args.nodes.now.items (sym c.accesses.ensures ∙ c.if-not-accesses.true)

pub returns : goal.returns
returns c =
    let old = c.args.nodes.now.items in
    let new = c.push_fitting.new.nodes.items in
    on_ok_weaker c.push_fitting.result (λ adds.
    more-where _ (λ p. holds_if_fit c.args.of p (IndexScan c.args.access c.args.own.now)) old new (sym c.accesses.ensures ∙ c.if-not-accesses.false)
    (subst (λ (C : List Condition). Adds old new (λ p. holds_if_fit c.args.of p (IndexScan c.args.access C))) c.in_ok-conjuncts.ensures adds)) c.push_fitting.ensures
