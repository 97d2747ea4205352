use Rattle.std.proofs.Common.{◌∙◌, ap, sym, subst, ◌<◌, length, map}
use Rattle.std.specs.List.{AllByRecursion, range_with_len}
use Rattle.relations.specs.declared.headings.Place.{Place}
use Rattle.relations.specs.Parts.{cell_rows, row_at}
use Rattle.relations.specs.Relations.{row_env}
use Rattle.relations.proofs.RelationRows.{first-within}
use Rattle.relations.proofs.relation.Relation.without_rows.Goals as goal

pub invariant_of-result : goal.invariant_of-result
invariant_of-result c =
    let within = subst (AllByRecursion (λ (p : Place). p.part < 1)) (sym c.in_ok-heading.ensures.1) (first-within (length c.args.columns) 0) in
    record { placed = subst (λ n. AllByRecursion (λ (p : Place). p.part < n) c.in_ok-heading.heading.places.items) (sym (ap length c.in_ok-rows.ensures.parts)) within }

pub returns : goal.returns
returns c = λ e. record {
  columns_are = c.in_ok-heading.ensures.0;
  rows_are = ap (λ n. map (λ k. row_env c.in_ok-heading.heading (row_at c.in_ok-rows.rows.parts.items k) e) (range_with_len 0 n)) (c.in_ok-rows.ensures.count ∙ ap length (c.made.ensures ∙ ap cell_rows c.new.ensures.items));
}
