use Rattle.std.proofs.Common.{List, ◌&&◌, ◌∙◌, sym, subst}
use Rattle.std.proofs.lemmas.Result.{on_ok_weaker}
use Rattle.algebra.specs.declared.condition.Condition.{Condition}
use Rattle.physical.specs.declared.plan.Operator.TheVariants.{Filter, FilterSubqueries}
use Rattle.labels.specs.Candidates.{scans_hold}
use Rattle.labels.specs.Nodes.{Adds, holds_if_fit}
use Rattle.labels.proofs.NodeLists.{both-more, more-else, more-if}
use Rattle.labels.proofs.nodes.push_selects.Goals as goal

pub returns-then-not-is_plain : goal.returns-then-not-is_plain
returns-then-not-is_plain c =
    let of = c.args.of in
    let C = c.args.own.now in
    let old = c.args.nodes.now.items in
    let new = c.push_fitting.new.nodes.items in
    on_ok_weaker c.push_fitting.result (λ adds.
    more-else _ (λ p. holds_if_fit of p (Filter C) && scans_hold (holds_if_fit of p) of.derived.log.now.log of.accesses.now C c.args.class) (λ p. holds_if_fit of p (FilterSubqueries C)) old new (sym c.is_plain.ensures ∙ c.if-not-is_plain.true)
    (subst (λ (D : List Condition). Adds old new (λ p. holds_if_fit of p (FilterSubqueries D))) c.in_ok-conjuncts.ensures adds)) c.push_fitting.ensures

pub returns : goal.returns
returns c =
    let of = c.args.of in
    let C = c.args.own.now in
    let old = c.args.nodes.now.items in
    let mid = c.push_fitting-2.new.nodes.items in
    let new = c.push_index_scans.new.nodes.items in
    on_ok_weaker c.push_index_scans.result (λ adds.
    more-if _ (λ p. holds_if_fit of p (Filter C) && scans_hold (holds_if_fit of p) of.derived.log.now.log of.accesses.now C c.args.class) (λ p. holds_if_fit of p (FilterSubqueries C)) old new (sym c.is_plain.ensures ∙ c.if-not-is_plain.false)
    (both-more (λ p. holds_if_fit of p (Filter C)) (λ p. scans_hold (holds_if_fit of p) of.derived.log.now.log of.accesses.now C c.args.class) old mid new
    (subst (λ (D : List Condition). Adds old mid (λ p. holds_if_fit of p (Filter D))) c.in_ok-conjuncts.ensures c.in_ok-push_fitting.ensures) adds)) c.push_index_scans.ensures
