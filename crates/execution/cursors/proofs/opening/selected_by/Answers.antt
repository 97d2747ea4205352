use Rattle.std.proofs.Common.{ap, sym, ◌∙◌, List, filter}
use Rattle.algebra.specs.declared.condition.Condition.{Condition}
use Rattle.algebra.specs.Conditions.{holds}
use Rattle.physical.specs.Outputs.{no_classes}
use Rattle.relations.specs.Relations.{env_of}
use Rattle.selections.specs.declared.selecting.Selecting.{Selecting}
use Rattle.cursors.specs.Selected.{selected_envs}
use Rattle.selections.specs.Selecting.{selecting_columns, selecting_rows}
use Rattle.cursors.proofs.Selections.{reselected}
use Rattle.cursors.proofs.opening.selected_by.Goals as goal

pub returns-in-Filter : goal.returns-in-Filter
returns-in-Filter c =
    let K = c.args.selected.relation.heading.columns in
    let rows = selected_envs c.args.env.now c.args.selected in
    let e = env_of c.args.env.now in
    reselected c.filtered.result _ _ _ _ c.args.env.now
    (sym (ap (λ (how : Selecting). selecting_columns how K) c.in-Filter.is))
    (ap (λ (C : List Condition). filter (holds no_classes C) rows) c.as_slice.ensures.conditions ∙ sym (ap (λ (how : Selecting). selecting_rows how rows e) c.in-Filter.is))
    c.filtered.ensures

pub returns-in-Projection : goal.returns-in-Projection
returns-in-Projection c =
    let K = c.args.selected.relation.heading.columns in
    let rows = selected_envs c.args.env.now c.args.selected in
    let e = env_of c.args.env.now in
    reselected c.projected.result _ _ _ _ c.args.env.now
    (sym (ap (λ (how : Selecting). selecting_columns how K) c.in-Projection.is))
    (sym (ap (λ (how : Selecting). selecting_rows how rows e) c.in-Projection.is))
    c.projected.ensures
