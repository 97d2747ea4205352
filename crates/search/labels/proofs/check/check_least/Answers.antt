use Rattle.std.proofs.Common.{◌≡◌, ◌<◌, ℕ, false, ap, sym, ◌∙◌, Option, Some, length, subst}
use Rattle.std.specs.Prelude.{MatchOption}
use Rattle.std.specs.List.{AllByRecursion}
use Rattle.algebra.specs.Columns.{columns_at}
use Rattle.logs.specs.Logged.{Logged}
use Rattle.labels.specs.declared.by_class.LabelsByClass.{LabelsByClass}
use Rattle.labels.specs.ByClass.{IsByClass}
use Rattle.labels.specs.Labels.{are_once}
use Rattle.labels.specs.Offers.{goal_of}
use Rattle.labels.proofs.Checked.{all-shown, lost-goals, lost-plan}
use Rattle.labels.proofs.Keeping.{goals-within}
use Rattle.labels.proofs.check.check_least.Goals as goal

pub returns-then-not-are_goals : goal.returns-then-not-are_goals
returns-then-not-are_goals c =
    lost-goals c.args.statistics.now c.of-derived.result c.args.log.now c.of-derived.ensures.log c.of-derived.ensures.columns c.args.root.now c.args.plan.now c.args.labels.now
    c.are_goals.result c.are_goals.ensures c.if-not-are_goals.true

pub labels_by_class-requires : goal.labels_by_class-requires
labels_by_class-requires c =
    let D = c.of-derived.result in
    subst (λ (n : ℕ). AllByRecursion (λ l. l.goal.class < n) c.args.labels.now) (ap (λ (L : Logged). length L.log) c.of-derived.ensures.log ∙ sym c.len.ensures)
    (goals-within D.log.now.log (columns_at D.columns.now) c.args.labels.now (sym c.are_goals.ensures ∙ c.if-not-are_goals.false))

pub returns-then-not-branch : goal.returns-then-not-branch
returns-then-not-branch c =
    let root = c.args.root.now in
    lost-plan c.args.statistics.now c.of-derived.result c.args.log.now c.of-derived.ensures.log c.of-derived.ensures.columns root c.args.plan.now c.args.labels.now c.in_ok-goal.goal c.in_ok-is_offered.field-0
    (c.in_ok-goal.ensures ∙ ap (goal_of c.args.log.now.log root.class) c.as_slice.ensures) c.in_ok-is_offered.ensures c.if-not-branch.true

pub all_keep-requires-clause-classes : goal.all_keep-requires-clause-classes
all_keep-requires-clause-classes c =
    let D = c.of-derived.result in goals-within D.log.now.log (columns_at D.columns.now) c.args.labels.now (sym c.are_goals.ensures ∙ c.if-not-are_goals.false)

pub returns : goal.returns
returns c =
    let S = c.args.statistics.now in
    let L = c.args.log.now in
    let root = c.args.root.now in
    let labels = c.args.labels.now in
    let by : IsByClass labels c.in-Some.by_class = subst (λ (o : Option LabelsByClass). MatchOption o (are_once labels ≡ false) (IsByClass labels)) c.in-Some.is c.in_ok-by_class.ensures in
    all-shown S c.of-derived.result L c.of-derived.ensures.log c.of-derived.ensures.columns root c.args.plan.now labels c.in_ok-cardinalities.cardinalities c.in_ok-cardinalities.ensures
    c.are_goals.result c.in_ok-is_offered.field-0 c.in_ok-keep.keep c.in_ok-goal.goal c.cost_of.result c.cost-cost.result
    c.are_goals.ensures c.if-not-are_goals.false by.once (c.in_ok-goal.ensures ∙ ap (goal_of L.log root.class) c.as_slice.ensures) c.in_ok-is_offered.ensures c.if-not-branch.false
    c.cost_of.ensures c.cost-cost.ensures (c.in-Some-cost_of.is ∙ ap (λ (n : ℕ). Some n) c.if-own-cost.false) c.in_ok-keep.ensures
