use Rattle.std.proofs.Common.{◌≡◌, ◌++◌, codes, flat_map, take}
use Rattle.algebra.specs.ConjunctOrder.{condition_text}
use Rattle.certificate_text.proofs.parts.push_more_conditions.Given as goal

abbrev pub invariant-loop-condition : goal.invariant-loop-condition
invariant-loop-condition l = l.text.items ≡ l.fn.text.items ++ flat_map (λ x. codes ";" ++ condition_text x) (take l.condition-index l.more)
