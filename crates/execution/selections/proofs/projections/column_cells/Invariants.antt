use Rattle.std.proofs.Common.{◌≡◌, map}
use Rattle.std.specs.List.{range_with_len}
use Rattle.values.specs.Cells.{value_of}
use Rattle.relations.specs.Relations.{env_of, numbered_env}
use Rattle.selections.proofs.projections.column_cells.Given as goal

abbrev pub invariant-loop-number : goal.invariant-loop-number
invariant-loop-number l = map value_of l.cells.items ≡ map (λ n. numbered_env l.input (env_of l.env) n l.column) (range_with_len 0 l.number)
