use Rattle.std.proofs.Common.{◌++◌, map}
use Rattle.std.specs.List.{range_with_len}
use Rattle.query.specs.Aggregates.{column_of}
use Rattle.query.specs.Running.{IsAfter}
use Rattle.relations.specs.Relations.{env_of, numbered_env}
use Rattle.grouping.proofs.totals.with_values.Given as goal

abbrev pub invariant-loop-number : goal.invariant-loop-number
invariant-loop-number g l = IsAfter l.fn.of (map (λ e. e (column_of l.fn.of)) g.seen ++ map (λ n. numbered_env l.chunk (env_of l.fn.env) n (column_of l.fn.of)) (range_with_len 0 l.number)) l.running
