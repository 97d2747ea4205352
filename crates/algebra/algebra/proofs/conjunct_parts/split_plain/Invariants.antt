use Rattle.std.proofs.Common.{◌≡◌, take}
use Rattle.algebra.specs.ConjunctParts.{part, rest, has_no_class}
use Rattle.algebra.proofs.conjunct_parts.split_plain.Given as goal

abbrev pub invariant-loop-condition : goal.invariant-loop-condition
invariant-loop-condition l = record {
  part_is : l.part ≡ part has_no_class (take l.condition-index l.conditions);
  rest_is : l.rest ≡ rest has_no_class (take l.condition-index l.conditions);
}
