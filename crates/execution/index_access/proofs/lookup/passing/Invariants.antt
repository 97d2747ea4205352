use Rattle.std.proofs.Common.{◌≡◌, filter, take}
use Rattle.algebra.specs.Conditions.{holds}
use Rattle.physical.specs.Outputs.{no_classes}
use Rattle.relations.specs.Relations.{env_of, numbered_env}
use Rattle.index_access.proofs.lookup.passing.Given as goal

abbrev pub invariant-loop-number : goal.invariant-loop-number
invariant-loop-number l = l.kept.items ≡ filter (λ n. holds no_classes l.conditions (numbered_env l.relation (env_of l.env) n)) (take l.number-index l.numbers)
