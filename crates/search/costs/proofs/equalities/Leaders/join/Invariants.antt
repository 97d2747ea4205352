use Rattle.std.proofs.Common.{◌≡◌, ◌++◌, drop, map, take}
use Rattle.costs.specs.Equalities as spec
use Rattle.costs.proofs.equalities.Leaders.join.Given as goal

abbrev pub invariant-loop-entry : goal.invariant-loop-entry
invariant-loop-entry l = l.entry-items ≡ map (spec.handed l.other l.leader) (take l.entry-index l.initial.entry-items) ++ drop l.entry-index l.initial.entry-items
