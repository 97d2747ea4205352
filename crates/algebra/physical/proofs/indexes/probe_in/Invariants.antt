use Rattle.std.proofs.Common.{◌≡◌, drop}
use Rattle.algebra.specs.Columns.{has}
use Rattle.physical.specs.Indexes as spec
use Rattle.physical.proofs.indexes.probe_in.Given as goal

abbrev pub invariant-loop-condition : goal.invariant-loop-condition
invariant-loop-condition l = spec.probe_in (has l.own) (drop l.condition-index l.conditions) l.column ≡ spec.probe_in (has l.own) l.conditions l.column
