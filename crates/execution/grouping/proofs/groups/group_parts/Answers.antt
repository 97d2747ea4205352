use Rattle.std.proofs.Common.{ap, sym, ◌∙◌, ℕ, List, [], ◌∷◌, ◌++◌, get_or, map, take, arith}
use Rattle.std.proofs.lemmas.List.{get_or_default}
use Rattle.values.proofs.Lists.{map_next}
use Rattle.schema.specs.Databases.{Row}
use Rattle.algebra.specs.Bags.{Env}
use Rattle.grouping.specs.Grouped.{groups_in}
use Rattle.grouping.specs.Groups.{group_envs}
use Rattle.relations.specs.MadeColumns.{made_values}
use Rattle.relations.specs.Relations.{env_of}
use Rattle.relations.proofs.RelationRows.{value-column}
use Rattle.grouping.proofs.groups.group_parts.Goals as goal

pub loop-column-preserved : goal.loop-column-preserved
loop-column-preserved c =
    let i = c.loop-column.column-index in
    let columns = c.args.columns.now in
    let fs : List Env = group_envs c.args.grouping c.args.groups.now.input.now (env_of c.args.env.now) (groups_in c.args.groups.now) in
    let part : ℕ → List Row = λ k. map (λ f. f k ∷ []) fs in
    c.in_ok-push.ensures.items ∙ ap (λ (l : List (List Row)). l ++ c.of_column.result ∷ []) c.loop-column.invariant
    ∙ ap (λ (p : List Row). map part (take i columns) ++ p ∷ []) (c.of_column.ensures ∙ value-column (made_values c.in_ok-made.made) fs (get_or columns i 0) c.in_ok-made.ensures)
    ∙ sym (map_next part columns i (get_or columns i 0) (omega arith) (get_or_default columns i 0 _ (omega arith)))
