use Rattle.std.proofs.Common.{◌≡◌, drop}
use Rattle.costs.specs.Equalities as spec
use Rattle.costs.proofs.equalities.Leaders.leader.Given as goal

abbrev pub invariant-loop-entry : goal.invariant-loop-entry
invariant-loop-entry l = spec.leader_in (drop l.entry-index l.entries) l.column ≡ spec.leader_in l.entries l.column
