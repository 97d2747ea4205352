use Rattle.std.proofs.Common.{◌≡◌, [], ◌∷◌, map, take}
use Rattle.grouping.specs.Grouped.{groups_in}
use Rattle.grouping.specs.Groups.{group_envs}
use Rattle.relations.specs.Relations.{env_of}
use Rattle.grouping.proofs.groups.group_parts.Given as goal

abbrev pub invariant-loop-column : goal.invariant-loop-column
invariant-loop-column l = l.parts.items ≡ map (λ c. map (λ f. f c ∷ []) (group_envs l.grouping l.groups.input.now (env_of l.env) (groups_in l.groups))) (take l.column-index l.columns)
