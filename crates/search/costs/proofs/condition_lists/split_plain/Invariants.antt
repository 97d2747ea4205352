use Rattle.std.proofs.Common.{◌≡◌, map, take}
use Rattle.algebra.specs.ConjunctParts.{part, rest, has_no_class}
use Rattle.costs.proofs.condition_lists.split_plain.Given as goal

abbrev pub invariant-loop-condition : goal.invariant-loop-condition
invariant-loop-condition l = record {
  plain_is : map (λ c. c.now) l.plain.items ≡ part has_no_class (map (λ c. c.now) (take l.condition-index l.conditions));
  others_are : map (λ c. c.now) l.others.items ≡ rest has_no_class (map (λ c. c.now) (take l.condition-index l.conditions));
}
