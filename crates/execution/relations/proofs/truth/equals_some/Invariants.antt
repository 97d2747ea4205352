use Rattle.std.proofs.Common.{◌≡◌, map}
use Rattle.std.specs.List.{range_with_len}
use Rattle.values.specs.Cells.{value_of}
use Rattle.values.specs.declared.truth.Comparison.TheVariants as by
use Rattle.values.specs.Truth.{compare}
use Rattle.query.specs.Meaning.{any_of}
use Rattle.relations.specs.Relations.{env_of, numbered_env}
use Rattle.relations.proofs.truth.equals_some.Given as goal

abbrev pub invariant-loop-number : goal.invariant-loop-number
invariant-loop-number l = l.any ≡ any_of (map (λ s. compare by.Equal (value_of l.cell) (s l.column)) (map (numbered_env l.relation (env_of l.env)) (range_with_len 0 l.number)))
