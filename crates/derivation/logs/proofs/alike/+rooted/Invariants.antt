use Rattle.std.proofs.Common.{◌≡◌, map, take}
use Rattle.algebra.specs.Alike as spec
use Rattle.props.specs.Knowledge.{known}
use Rattle.logs.proofs.alike.+rooted.Given as goal

abbrev pub invariant-rooted_conditions-loop-condition : goal.invariant-rooted_conditions-loop-condition
invariant-rooted_conditions-loop-condition l = l.rooted ≡ map (spec.rooted_condition (known l.classes).root) (take l.condition-index l.conditions)
