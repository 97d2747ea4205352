use Rattle.std.proofs.Common.{◌≡◌, ℕ, [], ◌∷◌, map, take}
use Rattle.algebra.specs.Bags.{Env, nulls}
use Rattle.grouping.specs.Groups.{row_group_envs}
use Rattle.grouping.specs.GroupTables.{HasGroups, groups_seen, row_key}
use Rattle.grouping.proofs.group_table.GroupTable.parts.Given as goal

abbrev pub invariant-loop-column : goal.invariant-loop-column
invariant-loop-column l = (row : ℕ → Env) → HasGroups l.grouping.keys.now l.grouping.added.now row l.self → l.parts.items ≡ map (λ c. map (λ f. f c ∷ []) (row_group_envs l.grouping row nulls (groups_seen (row_key row l.grouping.keys.now) l.self.count))) (take l.column-index l.columns)
