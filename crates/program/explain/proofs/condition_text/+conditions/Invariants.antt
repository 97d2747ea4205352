use Rattle.std.proofs.Common.{◌≡◌, ◌++◌, flat_map, take}
use Rattle.explain.specs.ConditionTexts as spec
use Rattle.explain.proofs.condition_text.+conditions.Given as goal

abbrev pub invariant-push_more-loop-condition : goal.invariant-push_more-loop-condition
invariant-push_more-loop-condition l = l.text.items ≡ l.fn.text.items ++ flat_map (λ c. l.word ++ spec.condition_text l.names c) (take l.condition-index l.more)
