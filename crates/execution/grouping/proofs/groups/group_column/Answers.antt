use Rattle.std.proofs.Common.{◌≡◌, sym, subst, ◌∙◌, ℕ, List, map, IfOk, arith}
use mathlib.Core.List.{map-map}
use Rattle.values.specs.declared.value.Value.{Value}
use Rattle.algebra.specs.Columns.{has}
use Rattle.algebra.specs.Bags.{Env, lay}
use Rattle.grouping.specs.Grouped.{groups_in}
use Rattle.grouping.specs.Groups.{GroupOf, group_env, member_envs}
use Rattle.relations.specs.MadeColumns.{made_values}
use Rattle.relations.specs.Relations.{env_of, numbered_env}
use Rattle.grouping.proofs.AllRows.{aggregate-here, aggregate-none}
use Rattle.grouping.proofs.groups.group_column.Goals as goal

pub returns-then-added-column : goal.returns-then-added-column
returns-then-added-column c =
    let g = c.args.grouping in
    let input = c.args.groups.now.input.now in
    let e = env_of c.args.env.now in
    let groups = groups_in c.args.groups.now in
    let column = c.args.column in
    let first : GroupOf ℕ → Env = λ group. numbered_env input e group.first in
    let show : GroupOf ℕ → Env = λ group. group_env g (member_envs input e group) (first group) e in
    let same = λ (group : GroupOf ℕ). c.loop-added.invariant (member_envs input e group) (lay (has g.keys.now) (first group) e)
    ∙ aggregate-here g.added.now c.loop-added.added-index _ (member_envs input e group) (lay (has g.keys.now) (first group) e) column (omega arith) c.if-added-column.true in
    subst (λ (z : List Value). IfOk c.aggregate_column.result (λ made. made_values made ≡ z))
    (sym (map-map (λ (f : Env). f column) show groups ∙ (λ j. map (λ group. same group j) groups))) c.aggregate_column.ensures

pub returns : goal.returns
returns c =
    let g = c.args.grouping in
    let input = c.args.groups.now.input.now in
    let e = env_of c.args.env.now in
    let groups = groups_in c.args.groups.now in
    let column = c.args.column in
    let first : GroupOf ℕ → Env = λ group. numbered_env input e group.first in
    let show : GroupOf ℕ → Env = λ group. group_env g (member_envs input e group) (first group) e in
    let same = λ (group : GroupOf ℕ). c.loop-added.invariant (member_envs input e group) (lay (has g.keys.now) (first group) e)
    ∙ aggregate-none g.added.now c.loop-added.added-index (member_envs input e group) (lay (has g.keys.now) (first group) e) column (omega arith) in
    subst (λ (z : List Value). IfOk c.first_column.result (λ made. made_values made ≡ z))
    (sym (map-map (λ (f : Env). f column) show groups ∙ (λ j. map (λ group. same group j) groups))) c.first_column.ensures
