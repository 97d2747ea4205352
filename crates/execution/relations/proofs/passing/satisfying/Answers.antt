use Rattle.std.proofs.Common.{ap, ◌∙◌, filter, List}
use Rattle.std.proofs.lemmas.Result.{IfOk-weaker}
use Rattle.relations.specs.Relations.{numbers_of}
use Rattle.relations.specs.declared.resolved.Test.{Test}
use Rattle.relations.specs.Resolved.{all_pass, inner_row}
use Rattle.relations.proofs.passing.satisfying.Goals as goal

pub returns : goal.returns
returns c =
    let relation = c.args.relation.now in
    let l = inner_row c.args.env.now in
    IfOk-weaker c.passing.result _ _ (λ kept is. is
    ∙ ap (λ (tests : List Test). filter (all_pass relation l tests) (numbers_of relation)) c.as_slice.ensures.value
    ∙ (λ i. filter (λ n. c.in_ok-tests.ensures l n i) (numbers_of relation))) c.passing.ensures
