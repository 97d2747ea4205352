use Rattle.std.proofs.Common.{ap, sym, ◌∙◌, map}
use mathlib.Core.List.{map-map}
use Rattle.values.specs.declared.truth.Comparison.TheVariants as by
use Rattle.values.specs.Truth.{compare}
use Rattle.query.specs.Meaning.{any_of}
use Rattle.algebra.specs.Bags.{Env}
use Rattle.relations.specs.Parts.{row_at}
use Rattle.relations.specs.Relations.{numbered_env, numbers_of}
use Rattle.relations.proofs.ColumnPlaces.{found-column}
use Rattle.relations.proofs.value_lists.ValueList.of_column.Goals as goal

pub returns-in_ok-values-in-Some : goal.returns-in_ok-values-in-Some
returns-in_ok-values-in-Some c = λ e v.
    let r = c.args.relation.now in
    ap any_of (map-map (λ (s : Env). compare by.Equal v (s c.args.column)) (numbered_env r e) (numbers_of r)
    ∙ (λ i. map (λ n. compare by.Equal v (found-column r.heading (row_at r.rows.parts.items n) e c.args.column c.in-Some.place c.in-Some.ensures i)) (numbers_of r)))
    ∙ sym (c.in_ok-values-in-Some.ensures v)
