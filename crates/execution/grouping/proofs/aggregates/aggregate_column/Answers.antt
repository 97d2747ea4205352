use Rattle.std.proofs.Common.{◌≡◌, refl, ap, sym, subst, ◌∙◌, ◌≤◌, ◌*◌, ◌^◌, ℕ, List, Bool, arith}
use Rattle.std.specs.List.{AllByRecursion, range_with_len}
use Rattle.std.proofs.lemmas.List.FromFn.{length-range_with_len}
use Rattle.values.specs.declared.value.Value.{Value}
use Rattle.values.specs.Cells.{value_of}
use Rattle.query.specs.Aggregates.{MayRead, column_of, size_of}
use Rattle.query.proofs.RunningAggregates.{read-column}
use Rattle.algebra.specs.Bags.{Env}
use Rattle.relations.specs.MadeColumns.{made_values}
use Rattle.relations.specs.Relations.{env_of, numbered_env}
use Rattle.grouping.specs.Grouped.{groups_in}
use Rattle.grouping.specs.Groups.{added_at, first_seen, group_values, groups_by, same_at}
use Rattle.grouping.proofs.GroupValues.{values-of-rows, values-size}
use Rattle.grouping.proofs.Readable.{number-reads}
use Rattle.grouping.proofs.RunPlaces.{all-numbers}
use Rattle.grouping.proofs.aggregates.aggregate_column.Goals as goal

pub returns : goal.returns
returns c =
    let g = c.args.groups.now in
    let row : ℕ → Env = numbered_env g.input.now (env_of c.args.env.now) in
    let value : ℕ → Value = λ n. row n (column_of c.args.of) in
    subst (λ n. made_values c.loop-row.so_far ≡ group_values c.args.of value (groups_by (same_at g.places.items g.input.now.rows) (range_with_len 0 n))) (omega arith) c.loop-row.invariant
    ∙ values-of-rows c.args.of row (groups_in g)

pub loop-row-preserved : goal.loop-row-preserved
loop-row-preserved c =
    let g = c.args.groups.now in
    let n = c.loop-row.row in
    let row : ℕ → Env = numbered_env g.input.now (env_of c.args.env.now) in
    let value : ℕ → Value = λ m. row m (column_of c.args.of) in
    let same : ℕ → ℕ → Bool = same_at g.places.items g.input.now.rows in
    let is : value_of c.cell.result ≡ value n = c.cell.ensures ∙ c.row_column-column.ensures n ∙ ap (row n) c.column_of.ensures in
    c.in_ok-add_to_column.ensures value (groups_by same (range_with_len 0 n)) n is c.loop-row.invariant
    ∙ ap (group_values c.args.of value)
    (ap (λ k. added_at k n (groups_by same (range_with_len 0 n))) c.number.ensures ∙ sym (g.numbered n (omega (arith, g.each))))

pub add_to_column-requires-clause-small : goal.add_to_column-requires-clause-small
add_to_column-requires-clause-small c =
    let g = c.args.groups.now in
    let n = c.loop-row.row in
    let of = c.args.of in
    let row : ℕ → Env = numbered_env g.input.now (env_of c.args.env.now) in
    let value : ℕ → Value = λ m. row m (column_of of) in
    let same : ℕ → ℕ → Bool = same_at g.places.items g.input.now.rows in
    let rows : List ℕ = range_with_len 0 n in
    let reads : AllByRecursion (λ m. MayRead of (λ place. value m)) rows =
    all-numbers (λ m. MayRead of (λ place. value m)) 0 n (λ m low high. read-column of (row m) (value m) (number-reads of row g.input.now.rows.count m (omega (arith, high)) c.requires) refl) in
    subst (λ vs. AllByRecursion (λ v. size_of of v ≤ n * 2 ^ 63) vs) (sym c.loop-row.invariant)
    (subst (λ k. AllByRecursion (λ v. size_of of v ≤ k * 2 ^ 63) (group_values of value (groups_by same rows))) (length-range_with_len 0 n) (values-size of value same rows (first_seen same rows) reads))

pub add_to_column-requires-clause-read : goal.add_to_column-requires-clause-read
add_to_column-requires-clause-read c =
    let g = c.args.groups.now in
    let n = c.loop-row.row in
    let row : ℕ → Env = numbered_env g.input.now (env_of c.args.env.now) in
    read-column c.args.of (row n) _ (number-reads c.args.of row g.input.now.rows.count n (omega arith) c.requires) (c.cell.ensures ∙ c.row_column-column.ensures n ∙ ap (row n) c.column_of.ensures)
