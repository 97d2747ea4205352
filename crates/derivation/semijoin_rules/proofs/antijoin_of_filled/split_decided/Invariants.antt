use Rattle.std.proofs.Common.{◌≡◌, take}
use Rattle.algebra.specs.ConjunctParts.{part, rest}
use Rattle.props.specs.Knowledge.{known}
use Rattle.semijoin_rules.specs.AntijoinOfFilled.{is_decided}
use Rattle.semijoin_rules.proofs.antijoin_of_filled.split_decided.Given as goal

abbrev pub invariant-loop-condition : goal.invariant-loop-condition
invariant-loop-condition l = record {
  part_is : l.decided.items ≡ part (is_decided (known l.classes) l.left l.right) (take l.condition-index l.conditions);
  rest_is : l.others.items ≡ rest (is_decided (known l.classes) l.left l.right) (take l.condition-index l.conditions);
}
