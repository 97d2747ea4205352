use Rattle.std.proofs.Common.{ap, sym, ◌∙◌, map, List}
use Rattle.values.specs.Cells.{value_of}
use Rattle.values.specs.declared.truth.Comparison.TheVariants as by
use Rattle.values.specs.Truth.{compare}
use Rattle.query.specs.Meaning.{any_of}
use Rattle.algebra.specs.Bags.{Env}
use Rattle.relations.specs.Relations.{env_of}
use Rattle.relations.proofs.subqueries.Subqueries.is_among.Goals as goal

pub returns-in-Some : goal.returns-in-Some
returns-in-Some c = c.has.ensures ∙ sym (c.in-Some.ensures (env_of c.args.env.now) (value_of c.args.cell))

pub returns-in-Some-relation_of : goal.returns-in-Some-relation_of
returns-in-Some-relation_of c = c.equals_some.ensures ∙ ap (λ (rows : List Env). any_of (map (λ s. compare by.Equal (value_of c.args.cell) (s c.args.column)) rows)) (c.in-Some-relation_of.ensures (env_of c.args.env.now))

pub returns-in-None : goal.returns-in-None
returns-in-None c = ap (λ (rows : List Env). any_of (map (λ s. compare by.Equal (value_of c.args.cell) (s c.args.column)) rows)) (c.in-None.ensures (env_of c.args.env.now))
