use Rattle.std.proofs.Common.{◌≡◌, map, take}
use Rattle.algebra.specs.Alike.{rooted_condition}
use Rattle.subquery_rules.specs.Replacing as spec
use Rattle.subquery_rules.proofs.replacing.+replaced.Given as goal

abbrev pub invariant-replaced_conditions-loop-condition : goal.invariant-replaced_conditions-loop-condition
invariant-replaced_conditions-loop-condition l = l.replaced ≡ map (rooted_condition (spec.in_place l.new.class l.new.input)) (take l.condition-index l.conditions)
