use Rattle.std.proofs.Common.{sym, ◌∙◌}
use Rattle.relations.specs.Parts.{row_at}
use Rattle.relations.specs.Relations.{env_of}
use Rattle.relations.proofs.ColumnPlaces.{found-column, other-column}
use Rattle.relations.proofs.environment.row_column.Goals as goal

pub returns-in-Some : goal.returns-in-Some
returns-in-Some c = λ n.
    let relation = c.args.relation.now in
    c.column.ensures n ∙ sym (found-column relation.heading (row_at relation.rows.parts.items n) (env_of c.args.env.now) c.args.column c.in-Some.place c.in-Some.ensures)

pub returns-in-None : goal.returns-in-None
returns-in-None c = λ n.
    let relation = c.args.relation.now in
    c.column-in-None.ensures ∙ sym (other-column relation.heading (row_at relation.rows.parts.items n) (env_of c.args.env.now) c.args.column c.in-None.ensures)
