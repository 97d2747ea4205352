use Rattle.std.proofs.Common.{◌++◌, map, ap, ◌∙◌}
use Rattle.std.proofs.lemmas.List.{take_all}
use Rattle.costs.specs.Equalities as spec
use Rattle.costs.proofs.equalities.with_equations.Goals as goal

pub returns : goal.returns
returns c =
    c.loop-condition.invariant
    ∙ ap (λ xs. c.args.equations.now ++ spec.equations (map (λ c. c.now) xs)) (take_all c.loop-condition.condition-index c.as_slice-condition-items.result.now c.loop-condition-test.false ∙ c.as_slice-condition-items.ensures.value)
    ∙ ap (λ C. c.args.equations.now ++ spec.equations C) c.in_ok-counted.ensures
