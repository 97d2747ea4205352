use Rattle.std.proofs.Common.{rules, ap, sym, ◌∙◌, set, map, FitsSigned, w64}
use Rattle.std.proofs.lemmas.Int.{to_z-of_z}
use Rattle.std.proofs.lemmas.List.{map-set}
use Rattle.values.specs.Cells.{value_of}
use Rattle.relations.specs.declared.made_columns.MadeColumn.{MadeColumn}
use Rattle.relations.specs.MadeColumns.{made_values, marked_value}
use Rattle.relations.proofs.made_columns.MadeColumn.set.Goals as goal

pub returns-in-Some : goal.returns-in-Some
returns-in-Some c =
    let items = c.in-Marked.numbers.items in
    let at = c.args.at in
    let n = c.in-Some.number in
    let fits : FitsSigned w64 n = search rules in
    ap (λ m. map marked_value (set items at m)) (to_z-of_z w64 n fits) ∙ map-set marked_value items at n ∙ ap (set (map marked_value items) at) c.in-Some.ensures
    ∙ ap (λ (m : MadeColumn). set (made_values m) at (value_of c.args.cell)) (sym c.in-Marked.is)

pub returns-in_ok-cells-in-None : goal.returns-in_ok-cells-in-None
returns-in_ok-cells-in-None c =
    let cells = c.in_ok-cells-in-None.cells.items in
    let at = c.args.at in
    map-set value_of cells at c.args.cell
    ∙ ap (λ vs. set vs at (value_of c.args.cell)) (c.in_ok-cells-in-None.ensures ∙ ap (map marked_value) c.as_slice.ensures.value)
    ∙ ap (λ (m : MadeColumn). set (made_values m) at (value_of c.args.cell)) (sym c.in-Marked.is)

pub returns-in-Cells : goal.returns-in-Cells
returns-in-Cells c =
    let at = c.args.at in
    map-set value_of c.in-Cells.cells.items at c.args.cell ∙ ap (λ (m : MadeColumn). set (made_values m) at (value_of c.args.cell)) (sym c.in-Cells.is)
