use Rattle.std.proofs.Common.{◌≡◌, map}
use Rattle.std.specs.List.{range_with_len}
use Rattle.relations.specs.Relations.{env_of, numbered_env}
use Rattle.operators.specs.Sorting.{keyed_of}
use Rattle.operators.proofs.sorting.keyed_rows.Given as goal

abbrev pub invariant-loop-number : goal.invariant-loop-number
invariant-loop-number l = map keyed_of l.keyed.items ≡ map (λ n. (numbered_env l.input (env_of l.env) n l.column, n)) (range_with_len 0 l.number)
