use Rattle.std.proofs.Common.{◌≡◌, ap, sym, subst, ◌∙◌, ◌<◌, ℕ, List, [], length, get_or, map}
use Rattle.std.specs.List.{AllByRecursion, range_with_len}
use Rattle.std.proofs.lemmas.List.{length-map}
use Rattle.schema.specs.Databases.{Row}
use Rattle.algebra.specs.Bags.{Env, lay}
use Rattle.algebra.specs.Columns.{has}
use Rattle.relations.specs.declared.headings.Place.{Place}
use Rattle.relations.specs.Parts.{row_at, value_in}
use Rattle.relations.specs.Places.{place_in}
use Rattle.relations.specs.Relations.{row_env}
use Rattle.relations.proofs.Numbers.{chosen-rows}
use Rattle.relations.proofs.relation.Relation.picked.Goals as goal

pub returns-clause-rows : goal.returns-clause-rows
returns-clause-rows c = λ e.
    let h = c.args.self.now.heading in
    let g = c.in_ok-heading.heading in
    let numbers = c.args.numbers.now in
    let rows : List ℕ → List Place → List Env = λ columns places. map (λ k. lay (has columns) (λ d. value_in (place_in columns places d) (row_at c.in_ok-rows.rows.parts.items k)) e) (range_with_len 0 c.in_ok-rows.rows.count) in
    ap (λ K. rows K g.places.items) c.in_ok-heading.ensures.0
    ∙ ap (rows h.columns) c.in_ok-heading.ensures.1
    ∙ ap (λ n. map (λ k. row_env h (row_at c.in_ok-rows.rows.parts.items k) e) (range_with_len 0 n)) c.in_ok-rows.ensures.count
    ∙ ap (λ (parts : List (List Row)). map (λ k. row_env h (row_at parts k) e) (range_with_len 0 (length numbers))) c.in_ok-rows.ensures.parts
    ∙ chosen-rows (λ row. row_env h row e) c.args.self.now.rows.parts.items numbers

pub invariant_of-result : goal.invariant_of-result
invariant_of-result c =
    let parts = c.args.self.now.rows.parts.items in
    let same : length c.in_ok-rows.rows.parts.items ≡ length parts = ap length c.in_ok-rows.ensures.parts ∙ length-map parts (λ part. map (λ n. get_or part n []) c.args.numbers.now) in
    let within = subst (λ n. AllByRecursion (λ (p : Place). p.part < n) c.args.self.now.heading.places.items) (sym same) c.args.self.now.placed in
    record { placed = subst (AllByRecursion (λ (p : Place). p.part < length c.in_ok-rows.rows.parts.items)) (sym c.in_ok-heading.ensures.1) within }
