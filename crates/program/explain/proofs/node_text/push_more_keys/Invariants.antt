use Rattle.std.proofs.Common.{◌≡◌, ◌++◌, codes, flat_map, take}
use Rattle.explain.specs.PlanTexts as spec
use Rattle.explain.proofs.node_text.push_more_keys.Given as goal

abbrev pub invariant-loop-key : goal.invariant-loop-key
invariant-loop-key l = l.text.items ≡ l.fn.text.items ++ flat_map (λ k. codes "," ++ spec.key_text l.names k) (take l.key-index l.more)
