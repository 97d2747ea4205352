use Rattle.std.proofs.Common.{◌≡◌, map, take}
use Rattle.costs.specs.Equalities as spec
use Rattle.costs.proofs.equalities.counted.Given as goal

abbrev pub invariant-loop-condition : goal.invariant-loop-condition
invariant-loop-condition l = record {
  counted_are : map (λ c. c.now) l.counted.items ≡ spec.counted l.equations (map (λ c. c.now) (take l.condition-index l.conditions));
  leaders_are : spec.leader_in l.leaders.entries.items ≡ spec.leader_by (spec.with_equations l.equations (map (λ c. c.now) (take l.condition-index l.conditions)));
}
