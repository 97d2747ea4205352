use Rattle.std.proofs.Common.{◌≡◌, drop}
use Rattle.costs.specs.Tables as spec
use Rattle.costs.proofs.tables.owner.Given as goal

abbrev pub invariant-loop-instance : goal.invariant-loop-instance
invariant-loop-instance l = spec.owner (drop l.instance-index l.instances) l.column ≡ spec.owner l.instances l.column
