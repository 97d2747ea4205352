use Rattle.std.proofs.Common.{◌≡◌, take}
use Rattle.costs.specs.Equalities as spec
use Rattle.costs.proofs.equalities.Leaders.of.Given as goal

abbrev pub invariant-loop-equation : goal.invariant-loop-equation
invariant-loop-equation l = spec.leader_in l.leaders.entries.items ≡ spec.leader_by (take l.equation-index l.equations)
