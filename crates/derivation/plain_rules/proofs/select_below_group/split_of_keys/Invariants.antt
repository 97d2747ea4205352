use Rattle.std.proofs.Common.{◌≡◌, take}
use Rattle.algebra.specs.ConjunctParts.{part, rest}
use Rattle.plain_rules.specs.SelectBelowGroup.{is_of_keys}
use Rattle.plain_rules.proofs.select_below_group.split_of_keys.Given as goal

abbrev pub invariant-loop-condition : goal.invariant-loop-condition
invariant-loop-condition l = record {
  part_is : l.part.items ≡ part (is_of_keys l.keys) (take l.condition-index l.conditions);
  rest_is : l.rest.items ≡ rest (is_of_keys l.keys) (take l.condition-index l.conditions);
}
