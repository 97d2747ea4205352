use Rattle.std.proofs.Common.{◌≡◌, length, map}
use Rattle.relations.specs.Relations.{env_of}
use Rattle.index_access.specs.Cuts.{key_value}
use Rattle.index_access.specs.Probes.{Begins, IsSure}
use Rattle.index_access.proofs.ranges.put_equal_key.Given as goal

abbrev pub invariant-loop-column : goal.invariant-loop-column
invariant-loop-column l = record {
  long : length l.key.items ≡ l.column-index;
  begins : IsSure l.own l.conditions (env_of l.env) (λ f. Begins f l.columns (map key_value l.key.items));
}
