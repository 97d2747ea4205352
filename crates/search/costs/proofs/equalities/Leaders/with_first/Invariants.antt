use Rattle.std.proofs.Common.{◌≡◌, drop}
use Rattle.costs.specs.Equalities as spec
use Rattle.costs.proofs.equalities.Leaders.with_first.Given as goal

abbrev pub invariant-loop-first : goal.invariant-loop-first
invariant-loop-first l = spec.with_first (spec.leader_in l.self.entries.items) (drop l.first-index l.columns) l.column ≡ spec.with_first (spec.leader_in l.self.entries.items) l.columns l.column
