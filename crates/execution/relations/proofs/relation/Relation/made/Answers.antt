use Rattle.std.proofs.Common.{sym, subst, ◌<◌, length, arith}
use Rattle.std.specs.List.{AllByRecursion}
use Rattle.relations.specs.declared.headings.Place.{Place}
use Rattle.relations.proofs.RelationRows.{made-rows, own-within}
use Rattle.relations.proofs.relation.Relation.made.Goals as goal

pub invariant_of-result-2 : goal.invariant_of-result-2
invariant_of-result-2 c =
    record { placed = subst (AllByRecursion (λ (p : Place). p.part < length c.args.parts.items)) (sym c.in_ok-heading.ensures.1) (own-within (length c.args.columns) 0 (length c.args.parts.items) (omega (arith, c.requires.each))) }

pub returns : goal.returns
returns c = λ made e many values. record {
  columns_are = c.in_ok-heading.ensures.0;
  rows_are = made-rows c.in_ok-heading.heading c.args.columns c.args.parts.items made c.args.count e c.in_ok-heading.ensures.0 c.in_ok-heading.ensures.1 many values;
}
