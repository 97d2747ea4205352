use Rattle.std.proofs.Common.{rules, refl, ap, sym, ◌∙◌}
use Rattle.query.specs.Rows.{tables_of}
use Rattle.physical.specs.declared.plan.Plan.TheViews as views
use Rattle.physical.specs.declared.plan.Plan.TheFolds as folds
use Rattle.algebra.specs.Bags.{nulls}
use Rattle.relations.specs.declared.environment.Env.{Empty}
use Rattle.operators.proofs.PlansAbove.{columns-above, rows-above}
use Rattle.operators.proofs.RunnablePlans.{inputs-runnable, input-runnable}
use Rattle.selections.specs.Selecting.{selecting_columns, selecting_rows}
use Rattle.cursors.proofs.Selections.{reselected}
use Rattle.cursors.proofs.opening.+selected_rows.Goals as goal

pub selected_rows-requires : goal.selected_rows-requires
selected_rows-requires t c =
    let instances = c.args.sources.instances.now in
    let inputs = c.as_slice-inputs.result.now in
    (search (rules, views.the_lemmas, folds.the_lemmas), (input-runnable instances inputs 0 c.in-Some.input.now (sym c.in-Some.ensures.value) (inputs-runnable instances c.args.plan.now _ inputs refl c.as_slice-inputs.ensures c.requires.runnable), c.requires.short))

pub returns-in-Some-selecting_of : goal.returns-in-Some-selecting_of
returns-in-Some-selecting_of t c = λ S.
    let instances = c.args.sources.instances.now in
    let D = tables_of S c.args.sources.tables.now in
    let plan = c.args.plan.now in
    let inputs = c.as_slice-inputs.result.now in
    let input = c.in-Some.input.now in
    let at = sym c.in-Some.ensures.value in
    let how = c.in-Some-selecting_of.how in
    let selects = c.in-Some-selecting_of.ensures in
    let given = c.in_ok-selected.ensures S in
    reselected c.selected_by.result _ _ _ _ Empty
    (ap (selecting_columns how) given.columns_are ∙ sym (columns-above instances D plan how input selects inputs c.as_slice-inputs.ensures at))
    (ap (λ rows. selecting_rows how rows nulls) given.rows_are ∙ sym (rows-above instances D plan how input selects inputs nulls c.as_slice-inputs.ensures at))
    c.selected_by.ensures

pub returns : goal.returns
returns t c = λ S.
    let output = c.in_ok-relation.ensures S in
    let all = c.all_rows.ensures Empty in
    record { columns_are = all.columns_are ∙ output.columns_are; rows_are = all.rows_are ∙ output.rows_are }
