use Rattle.std.proofs.Common.{ap, sym, subst, ◌∙◌, ◌<◌, [], length, get_or, arith, Option, None, List}
use Rattle.std.proofs.lemmas.List.{length-map}
use Rattle.values.specs.declared.value.Value.TheVariants as value
use Rattle.schema.specs.Databases.{Row}
use Rattle.relations.specs.declared.headings.Place.{Place}
use Rattle.relations.specs.Parts.{row_at, value_in}
use Rattle.operators.proofs.ShownRows.{shown-at, shown-cell, shown-length}
use Rattle.operators.proofs.shown.FoundRowsRowSource.cell.Goals as goal

pub place_at-requires : goal.place_at-requires
place_at-requires c =
    let rows = c.self.inside.rows in
    let places = c.self.inside.places in
    let n = c.args.row in
    let below : n < rows.count = subst (λ m. n < m) (sym (ap length c.self.view_is) ∙ shown-length rows places) c.requires.row in
    let within : c.args.column < length places = subst (λ m. c.args.column < m) (ap (λ (all : List Row). length (get_or all n [])) (sym c.self.view_is) ∙ ap length (shown-at rows places n below) ∙ length-map places (λ place. value_in place (row_at rows.parts.items n))) c.requires.column in
    omega (arith, within, ap length c.as_slice.ensures)

pub returns-in-Some : goal.returns-in-Some
returns-in-Some c =
    let rows = c.self.inside.rows in
    let places = c.self.inside.places in
    let n = c.args.row in
    let below : n < rows.count = subst (λ m. n < m) (sym (ap length c.self.view_is) ∙ shown-length rows places) c.requires.row in
    let within : c.args.column < length places = subst (λ m. c.args.column < m) (ap (λ (all : List Row). length (get_or all n [])) (sym c.self.view_is) ∙ ap length (shown-at rows places n below) ∙ length-map places (λ place. value_in place (row_at rows.parts.items n))) c.requires.column in
    c.cell.ensures ∙ ap (λ (o : Option Place). value_in o (row_at rows.parts.items n)) (sym c.in-Some.is ∙ c.place_at.ensures ∙ ap (λ (ps : List (Option Place)). get_or ps c.args.column None) c.as_slice.ensures)
    ∙ sym (shown-cell rows places n c.args.column below within) ∙ ap (λ (all : List Row). get_or (get_or all n []) c.args.column value.Null) c.self.view_is

pub returns-in-None : goal.returns-in-None
returns-in-None c =
    let rows = c.self.inside.rows in
    let places = c.self.inside.places in
    let n = c.args.row in
    let below : n < rows.count = subst (λ m. n < m) (sym (ap length c.self.view_is) ∙ shown-length rows places) c.requires.row in
    let within : c.args.column < length places = subst (λ m. c.args.column < m) (ap (λ (all : List Row). length (get_or all n [])) (sym c.self.view_is) ∙ ap length (shown-at rows places n below) ∙ length-map places (λ place. value_in place (row_at rows.parts.items n))) c.requires.column in
    ap (λ (o : Option Place). value_in o (row_at rows.parts.items n)) (sym c.in-None.is ∙ c.place_at.ensures ∙ ap (λ (ps : List (Option Place)). get_or ps c.args.column None) c.as_slice.ensures)
    ∙ sym (shown-cell rows places n c.args.column below within) ∙ ap (λ (all : List Row). get_or (get_or all n []) c.args.column value.Null) c.self.view_is
