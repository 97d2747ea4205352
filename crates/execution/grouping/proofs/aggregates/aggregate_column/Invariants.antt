use Rattle.std.proofs.Common.{◌≡◌}
use Rattle.std.specs.List.{range_with_len}
use Rattle.query.specs.Aggregates.{column_of}
use Rattle.relations.specs.MadeColumns.{made_values}
use Rattle.relations.specs.Relations.{env_of, numbered_env}
use Rattle.grouping.specs.Groups.{group_values, groups_by, same_at}
use Rattle.grouping.proofs.aggregates.aggregate_column.Given as goal

abbrev pub invariant-loop-row : goal.invariant-loop-row
invariant-loop-row l =
    made_values l.so_far ≡ group_values l.of (λ n. numbered_env l.groups.input.now (env_of l.fn.env) n (column_of l.of)) (groups_by (same_at l.groups.places.items l.groups.input.now.rows) (range_with_len 0 l.row))
