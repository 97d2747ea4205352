use Rattle.std.proofs.Common.{◌≡◌, ap, sym, subst, ◌∙◌, ◌<◌, length, arith}
use Rattle.std.specs.List.{AllByRecursion}
use Rattle.relations.specs.declared.headings.Heading.{Heading}
use Rattle.relations.specs.declared.headings.Place.{Place}
use Rattle.relations.specs.Relations.{env_of, column_places, numbers_of}
use Rattle.relations.proofs.RelationRows.{places-within, projected-rows}
use Rattle.selections.proofs.projections.projected.Goals as goal

pub invariant_of-heading : goal.invariant_of-heading
invariant_of-heading c =
    record { whole = omega (arith, c.if-as_slice-wanted.false, ap length c.as_slice.ensures.value, ap length c.as_slice-wanted.ensures.columns, ap length c.in_ok-columns.ensures) }

pub invariant_of-result : goal.invariant_of-result
invariant_of-result c =
    let h = c.args.input.heading in
    let Within = AllByRecursion (λ (p : Place). p.part < length c.args.input.rows.parts.items) in
    record { placed = subst Within (sym c.in_ok-places.ensures) (places-within _ h.columns h.places.items c.as_slice-wanted.result.now c.args.input.placed) }

pub returns : goal.returns
returns c =
    let h = c.args.input.heading in
    let K = c.args.columns.now in
    let places : c.in_ok-places.places.items ≡ column_places h K = c.in_ok-places.ensures ∙ ap (column_places h) c.as_slice-wanted.ensures.columns in
    let whole : length c.in_ok-places.places.items ≡ length K = omega (arith, c.if-as_slice-wanted.false, ap length c.as_slice.ensures.value, ap length c.as_slice-wanted.ensures.columns) in
    let projected : Heading = record { columns = c.in_ok-columns.columns; places = c.in_ok-places.places; whole = whole ∙ ap length (sym c.in_ok-columns.ensures) } in
    record { columns_are = c.in_ok-columns.ensures; rows_are = projected-rows h projected K c.args.input.rows.parts.items (numbers_of c.args.input) (env_of c.args.env.now) c.in_ok-columns.ensures places (sym (ap length places) ∙ whole) }
