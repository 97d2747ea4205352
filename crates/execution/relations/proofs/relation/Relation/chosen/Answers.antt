use Rattle.std.proofs.Common.{◌≡◌, ap, sym, subst, ◌∙◌, ◌<◌, List, [], length, get_or, map}
use Rattle.std.specs.List.{AllByRecursion, range_with_len}
use Rattle.std.proofs.lemmas.List.{length-map}
use Rattle.schema.specs.Databases.{Row}
use Rattle.relations.specs.declared.headings.Place.{Place}
use Rattle.relations.specs.Parts.{row_at}
use Rattle.relations.specs.Relations.{row_env}
use Rattle.relations.proofs.Numbers.{chosen-rows}
use Rattle.relations.proofs.relation.Relation.chosen.Goals as goal

pub returns-clause-rows : goal.returns-clause-rows
returns-clause-rows c = λ e.
    let h = c.args.self.heading in
    let numbers = c.args.numbers.now in
    ap (λ n. map (λ k. row_env h (row_at c.in_ok-rows.rows.parts.items k) e) (range_with_len 0 n)) c.in_ok-rows.ensures.count
    ∙ ap (λ (parts : List (List Row)). map (λ k. row_env h (row_at parts k) e) (range_with_len 0 (length numbers))) c.in_ok-rows.ensures.parts
    ∙ chosen-rows (λ row. row_env h row e) c.args.self.rows.parts.items numbers

pub invariant_of-result : goal.invariant_of-result
invariant_of-result c =
    let same : length c.in_ok-rows.rows.parts.items ≡ length c.args.self.rows.parts.items = ap length c.in_ok-rows.ensures.parts ∙ length-map c.args.self.rows.parts.items (λ part. map (λ n. get_or part n []) c.args.numbers.now) in
    record { placed = subst (λ n. AllByRecursion (λ (p : Place). p.part < n) c.args.self.heading.places.items) (sym same) c.args.self.placed }
