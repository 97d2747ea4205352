use Rattle.std.proofs.Common.{◌≡◌, map, take}
use Rattle.algebra.specs.ConjunctParts.{part, rest}
use Rattle.props.specs.Knowledge.{known}
use Rattle.costs.specs.Cardinalities.{is_apart}
use Rattle.costs.proofs.condition_lists.split.Given as goal

abbrev pub invariant-loop-condition : goal.invariant-loop-condition
invariant-loop-condition l = record {
  apart_is : map (λ c. c.now) l.apart.items ≡ part (is_apart (known l.classes) l.class) (map (λ c. c.now) (take l.condition-index l.conditions));
  others_are : map (λ c. c.now) l.others.items ≡ rest (is_apart (known l.classes) l.class) (map (λ c. c.now) (take l.condition-index l.conditions));
}
