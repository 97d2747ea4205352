use Rattle.std.proofs.Common.{ap, sym, ◌∙◌, List, filter}
use Rattle.algebra.specs.declared.condition.Condition.{Condition}
use Rattle.algebra.specs.Conditions.{holds}
use Rattle.physical.specs.Outputs.{no_classes}
use Rattle.relations.specs.Relations.{env_of, rows_of}
use Rattle.joins.proofs.Outputs.{restated}
use Rattle.selections.specs.declared.selecting.Selecting.{Selecting}
use Rattle.selections.specs.Selecting.{selecting_columns, selecting_rows}
use Rattle.selections.proofs.selecting.selected.Goals as goal

pub returns-in-Filter : goal.returns-in-Filter
returns-in-Filter c =
    let K = c.args.input.heading.columns in
    let e = env_of c.args.env.now in
    let rows = rows_of c.args.input e in
    restated c.filtered.result _ _ _ _ e
    (sym (ap (λ (how : Selecting). selecting_columns how K) c.in-Filter.is))
    (ap (λ (C : List Condition). filter (holds no_classes C) rows) c.as_slice.ensures.conditions ∙ sym (ap (λ (how : Selecting). selecting_rows how rows e) c.in-Filter.is))
    c.filtered.ensures

pub returns-in-Projection : goal.returns-in-Projection
returns-in-Projection c =
    let K = c.args.input.heading.columns in
    let e = env_of c.args.env.now in
    let rows = rows_of c.args.input e in
    restated c.projected.result _ _ _ _ e
    (sym (ap (λ (how : Selecting). selecting_columns how K) c.in-Projection.is))
    (sym (ap (λ (how : Selecting). selecting_rows how rows e) c.in-Projection.is))
    c.projected.ensures
