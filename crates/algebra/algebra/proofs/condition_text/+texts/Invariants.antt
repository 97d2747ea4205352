use Rattle.std.proofs.Common.{◌≡◌, ◌++◌, codes, flat_map, take, string_bytes}
use Rattle.algebra.specs.ConjunctOrder as spec
use Rattle.algebra.proofs.condition_text.+texts.Given as goal

abbrev pub invariant-push_more-loop-condition : goal.invariant-push_more-loop-condition
invariant-push_more-loop-condition l = string_bytes l.text ≡ string_bytes l.fn.text ++ flat_map (λ c. codes "," ++ spec.condition_text c) (take l.condition-index l.more)
