use Rattle.std.proofs.Common.{ap, ◌∙◌, ℕ, List, ◌++◌}
use Rattle.relations.specs.declared.environment.Env.{Empty}
use Rattle.cursors.specs.Progress.{rows_to_come}
use Rattle.cursors.specs.ShownRows.{shown_chunks}
use Rattle.cursors.proofs.ShownNumbers.{shown-selected}
use Rattle.cursors.proofs.shown.shown_from.Goals as goal

pub returns : goal.returns
returns c =
    let rows = c.in_ok-rows.rows in
    let places = c.in_ok-places.places in
    let columns = c.args.columns.now in
    let asked = c.in_ok-extend_from_slice.ensures.items ∙ ap (λ (l : List ℕ). l ++ columns) c.in_ok-asked.ensures.items in
    ap (λ (l : List ℕ). rows_to_come rows places ++ shown_chunks c.args.more l) asked
    ∙ ap (λ l. l ++ shown_chunks c.args.more columns) (shown-selected rows c.args.selected places columns c.in_ok-rows.ensures.selected (c.in_ok-rows.ensures.numbers Empty) c.in_ok-places.ensures)
