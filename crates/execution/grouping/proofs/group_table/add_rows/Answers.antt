use Rattle.std.proofs.Common.{◌≡◌, ap, sym, subst, ◌∙◌, ◌+◌, ◌≤◌, ℕ, List, length, arith}
use Rattle.std.specs.List.{AllByRecursion, range_with_len}
use Rattle.std.proofs.lemmas.List.FromFn.{length-range_with_len}
use Rattle.values.specs.declared.value.Value.{Value}
use Rattle.values.specs.Cells.{value_of}
use Rattle.query.specs.Aggregates.{column_of}
use Rattle.query.proofs.RunningAggregates.{read-column}
use Rattle.algebra.specs.Bags.{Env, nulls}
use Rattle.relations.specs.Relations.{numbered_env}
use Rattle.grouping.specs.Groups.{AreAfter, GroupOf, first_seen}
use Rattle.grouping.specs.GroupTables.{groups_seen, same_key}
use Rattle.grouping.proofs.Readable.{number-reads}
use Rattle.grouping.proofs.RunningGroups.{after-few, groups-few}
use Rattle.grouping.proofs.group_table.add_rows.Goals as goal

pub loop-row-preserved : goal.loop-row-preserved
loop-row-preserved g c =
    let key = g.rows.0 in
    let of = c.args.of in
    let n = c.loop-row.row in
    let m = c.args.first + n in
    let value : ℕ → Value = λ k. g.rows.1 k (column_of of) in
    let here : numbered_env c.args.chunk.now nulls n ≡ g.rows.1 m = c.requires.1.0 n (omega arith) in
    let is : value_of c.cell.result ≡ value m = c.cell.ensures ∙ c.row_column-column.ensures n ∙ ap (numbered_env c.args.chunk.now nulls n) c.column_of.ensures ∙ ap (λ (e : Env). e (column_of of)) here in
    let next : m + 1 ≡ c.args.first + (n + 1) = omega arith in
    subst (λ (gs : List (GroupOf ℕ)). AreAfter of value gs c.add_to_group.new.running.items)
    (sym (c.requires.1.1.1.0 n (omega (arith, c.requires.1.1.1.1.0))) ∙ ap (groups_seen key) next)
    (c.in_ok-add_to_group.ensures value (groups_seen key m) m is c.loop-row.invariant)

pub add_to_group-requires-clause-few : goal.add_to_group-requires-clause-few
add_to_group-requires-clause-few g c =
    let key = g.rows.0 in
    let m = c.args.first + c.loop-row.row in
    let value : ℕ → Value = λ k. g.rows.1 k (column_of c.args.of) in
    let same = same_key key in
    let few : AllByRecursion (λ (x : GroupOf ℕ). length x.rows ≤ m) (groups_seen key m) =
    subst (λ k. AllByRecursion (λ (x : GroupOf ℕ). length x.rows ≤ k) (groups_seen key m)) (length-range_with_len 0 m) (groups-few same (range_with_len 0 m) (first_seen same (range_with_len 0 m))) in
    after-few c.args.of value (groups_seen key m) c.loop-row.running.items m (omega (arith, c.requires.0)) few c.loop-row.invariant

pub add_to_group-requires-clause-read : goal.add_to_group-requires-clause-read
add_to_group-requires-clause-read g c =
    let row : ℕ → Env = numbered_env c.args.chunk.now nulls in
    let n = c.loop-row.row in
    read-column c.args.of (row n) _ (number-reads c.args.of row c.args.chunk.now.rows.count n (omega arith) c.requires.1.1.0) (c.cell.ensures ∙ c.row_column-column.ensures n ∙ ap (row n) c.column_of.ensures)
