use Rattle.std.proofs.Common.{ap, sym, ◌∙◌}
use Rattle.relations.specs.Parts.{row_at}
use Rattle.relations.specs.Relations.{env_of}
use Rattle.relations.proofs.ColumnPlaces.{found-column, other-column}
use Rattle.relations.proofs.environment.Env.+column.Goals as goal

pub returns-in-Some : goal.returns-in-Some
returns-in-Some t c =
    c.cell.ensures
    ∙ sym (found-column c.in-Inner.relation.now.heading (row_at c.in-Inner.relation.now.rows.parts.items c.in-Inner.number) (env_of c.in-Inner.outer.now) c.args.column c.in-Some.place c.in-Some.ensures)
    ∙ ap (λ e. env_of e c.args.column) (sym c.in-Inner.is)

pub returns-in-None : goal.returns-in-None
returns-in-None t c =
    c.column.ensures
    ∙ sym (other-column c.in-Inner.relation.now.heading (row_at c.in-Inner.relation.now.rows.parts.items c.in-Inner.number) (env_of c.in-Inner.outer.now) c.args.column c.in-None.ensures)
    ∙ ap (λ e. env_of e c.args.column) (sym c.in-Inner.is)
