use Rattle.std.proofs.Common.{◌≡◌, flat_map, option_to_list, take}
use Rattle.costs.specs.Equalities as spec
use Rattle.costs.proofs.equalities.within.Given as goal

abbrev pub invariant-loop-column : goal.invariant-loop-column
invariant-loop-column l = l.kept.items ≡ flat_map (λ c. option_to_list (spec.with_first (spec.leader_in l.leaders.entries.items) l.column-items c)) (take l.column-index l.column-items)
