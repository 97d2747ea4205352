use Rattle.std.proofs.Common.{◌≡◌, ◌++◌, codes, flat_map, take}
use Rattle.explain.specs.PlanTexts as spec
use Rattle.explain.proofs.node_text.push_more_aggregates.Given as goal

abbrev pub invariant-loop-added : goal.invariant-loop-added
invariant-loop-added l = l.text.items ≡ l.fn.text.items ++ flat_map (λ a. codes "," ++ spec.aggregation_text l.names a) (take l.added-index l.more)
