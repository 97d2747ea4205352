use Rattle.std.proofs.Common.{ap, sym, ◌∙◌, ℕ, List, [], ◌∷◌, ◌++◌, get_or, map, take, arith}
use Rattle.std.proofs.lemmas.List.{get_or_default}
use Rattle.values.proofs.Lists.{map_next}
use Rattle.schema.specs.Databases.{Row}
use Rattle.algebra.specs.Bags.{Env, nulls}
use Rattle.grouping.specs.Groups.{row_group_envs}
use Rattle.grouping.specs.GroupTables.{groups_seen, row_key}
use Rattle.relations.specs.MadeColumns.{made_values}
use Rattle.relations.proofs.RelationRows.{value-column}
use Rattle.grouping.proofs.group_table.GroupTable.parts.Goals as goal

pub loop-column-preserved : goal.loop-column-preserved
loop-column-preserved c = λ row groups.
    let g = c.args.grouping in
    let i = c.loop-column.column-index in
    let columns = c.args.columns.now in
    let fs : List Env = row_group_envs g row nulls (groups_seen (row_key row g.keys.now) c.args.self.now.count) in
    let part : ℕ → List Row = λ k. map (λ f. f k ∷ []) fs in
    c.in_ok-push.ensures.items ∙ ap (λ (l : List (List Row)). l ++ c.of_column.result ∷ []) (c.loop-column.invariant row groups)
    ∙ ap (λ (p : List Row). map part (take i columns) ++ p ∷ []) (c.of_column.ensures ∙ value-column (made_values c.in_ok-made.made) fs (get_or columns i 0) (c.in_ok-made.ensures row groups))
    ∙ sym (map_next part columns i (get_or columns i 0) (omega arith) (get_or_default columns i 0 (get_or columns i 0) (omega arith)))
