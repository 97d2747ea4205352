use Rattle.std.proofs.Common.{◌≡◌, ap, sym, subst, ◌∙◌, ℕ, List, get_or, map, IfOk}
use mathlib.Core.List.{map-map}
use Rattle.values.specs.declared.value.Value.{Value}
use Rattle.values.specs.Cells.{value_of}
use Rattle.relations.specs.MadeColumns.{made_values}
use Rattle.query.specs.declared.aggregates.Running.{Running}
use Rattle.query.specs.Aggregates.{column_of}
use Rattle.algebra.specs.Columns.{has}
use Rattle.algebra.specs.Bags.{Env, lay, nulls}
use Rattle.grouping.specs.Groups.{AreAfter, GroupOf, group_env}
use Rattle.grouping.specs.GroupTables.{groups_seen, row_key}
use Rattle.grouping.proofs.AllRows.{aggregate-here, aggregate-none, none}
use Rattle.grouping.proofs.RunningGroups.{after-values}
use Rattle.grouping.proofs.Zips.{zip-at}
use Rattle.grouping.proofs.group_table.GroupTable.column.Goals as goal

pub returns-then-one-column : goal.returns-then-one-column
returns-then-one-column c = λ row groups.
    let g = c.args.grouping in
    let A = g.added.now in
    let i = c.loop-place.place in
    let K = g.keys.now in
    let column = c.args.column in
    let seen : List (GroupOf ℕ) = groups_seen (row_key row K) c.args.self.now.count in
    let show : GroupOf ℕ → Env = λ group. group_env g (map row group.rows) (row group.first) nulls in
    let one = get_or A i none in
    let after : AreAfter one.aggregate (λ n. row n (column_of one.aggregate)) seen c.index.result.now.items =
    subst (λ r. AreAfter one.aggregate (λ n. row n (column_of one.aggregate)) seen r.items) (sym c.index.ensures) (zip-at _ A c.args.self.now.running.items i none c.index.result.now groups.held c.loop-place-test.true) in
    let same = λ (group : GroupOf ℕ). c.loop-place.invariant (map row group.rows) (lay (has K) (row group.first) nulls)
    ∙ aggregate-here A i none (map row group.rows) (lay (has K) (row group.first) nulls) column c.loop-place-test.true c.if-one-column.true in
    c.in_ok-cells.ensures ∙ ap (map (λ (r : Running). value_of r.so_far)) c.as_slice.ensures.value ∙ after-values one.aggregate row seen c.index.result.now.items after
    ∙ sym (map-map (λ (f : Env). f column) show seen ∙ (λ j. map (λ group. same group j) seen))

pub returns : goal.returns
returns c = λ row groups.
    let g = c.args.grouping in
    let K = g.keys.now in
    let column = c.args.column in
    let seen : List (GroupOf ℕ) = groups_seen (row_key row K) c.args.self.now.count in
    let show : GroupOf ℕ → Env = λ group. group_env g (map row group.rows) (row group.first) nulls in
    let same = λ (group : GroupOf ℕ). c.loop-place.invariant (map row group.rows) (lay (has K) (row group.first) nulls)
    ∙ aggregate-none g.added.now c.loop-place.place (map row group.rows) (lay (has K) (row group.first) nulls) column c.loop-place-test.false in
    subst (λ (z : List Value). IfOk c.key_column.result (λ made. made_values made ≡ z))
    (sym (map-map (λ (f : Env). f column) show seen ∙ (λ j. map (λ group. same group j) seen)))
    (c.key_column.ensures g.added.now row groups)
