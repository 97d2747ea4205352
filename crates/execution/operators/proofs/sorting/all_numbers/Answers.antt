use Rattle.std.proofs.Common.{ap, sym, ◌∙◌, ◌∷◌, ◌++◌, []}
use Rattle.store.proofs.IndexLists.{numbers_more}
use Rattle.operators.proofs.sorting.all_numbers.Goals as goal

pub loop-number-preserved : goal.loop-number-preserved
loop-number-preserved c =
    let n = c.loop-number.number in
    c.in_ok-push.ensures.items ∙ ap (λ l. l ++ n ∷ []) c.loop-number.invariant ∙ sym (numbers_more n)
