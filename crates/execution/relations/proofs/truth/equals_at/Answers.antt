use Rattle.std.proofs.Common.{ap, sym, ◌∙◌}
use Rattle.values.specs.Cells.{value_of}
use Rattle.values.specs.declared.truth.Comparison.TheVariants as by
use Rattle.values.specs.Truth.{compare}
use Rattle.relations.specs.Parts.{row_at}
use Rattle.relations.specs.Relations.{env_of}
use Rattle.relations.proofs.ColumnPlaces.{found-column, other-column}
use Rattle.relations.proofs.truth.equals_at.Goals as goal

pub returns-in-Some : goal.returns-in-Some
returns-in-Some c =
    c.compare.ensures
    ∙ ap (compare by.Equal (value_of c.args.cell)) (c.cell.ensures
    ∙ sym (found-column c.args.relation.now.heading (row_at c.args.relation.now.rows.parts.items c.args.number) (env_of c.args.env.now) c.args.column c.in-Some.place c.in-Some.ensures))

pub returns-in-None : goal.returns-in-None
returns-in-None c =
    c.compare-in-None.ensures
    ∙ ap (compare by.Equal (value_of c.args.cell)) (c.column.ensures
    ∙ sym (other-column c.args.relation.now.heading (row_at c.args.relation.now.rows.parts.items c.args.number) (env_of c.args.env.now) c.args.column c.in-None.ensures))
