use Rattle.std.proofs.Common.{ap, ◌∙◌, map, arith}
use Rattle.std.proofs.lemmas.List.{take_all}
use Rattle.relations.specs.Relations.{column_place}
use Rattle.operators.specs.Shown.{shown_rows}
use Rattle.operators.proofs.ShownRows.{shown-columns}
use Rattle.operators.proofs.shown.FoundRows.new.Goals as goal

pub returns : goal.returns
returns c =
    ap (shown_rows c.args.found.rows) (c.from_vec.ensures ∙ c.loop-column.invariant ∙ ap (map (column_place c.args.found.heading)) (take_all c.loop-column.column-index c.args.columns.now (omega arith)))
    ∙ shown-columns c.args.found c.args.columns.now
