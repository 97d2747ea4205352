use Rattle.std.proofs.Common.{◌≡◌, fold, map, take}
use Rattle.props.specs.Outcomes.{outcomes, of_and, of_or, null_set}
use Rattle.props.proofs.outcomes.+outcomes.Given as goal

abbrev pub invariant-all_outcomes-loop-condition : goal.invariant-all_outcomes-loop-condition
invariant-all_outcomes-loop-condition l = l.all ≡ fold of_and l.fn.first (map (λ c. outcomes c (null_set l.nulls)) (take l.condition-index l.conditions))

abbrev pub invariant-any_outcomes-loop-condition : goal.invariant-any_outcomes-loop-condition
invariant-any_outcomes-loop-condition l = l.any ≡ fold of_or l.fn.first (map (λ c. outcomes c (null_set l.nulls)) (take l.condition-index l.conditions))
