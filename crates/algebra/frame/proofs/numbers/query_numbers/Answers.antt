use Rattle.std.proofs.Common.{◌≡◌, ap, ◌∙◌, subst, List, [], ◌∷◌, ℕ, map, IfOk}
use Rattle.query.specs.declared.query.Block.{out-Block}
use Rattle.query.specs.Bound.{item_number}
use Rattle.algebra.proofs.Lists.{two}
use Rattle.frame.proofs.QueryNumbers.{numbers_of, item-numbers}
use Rattle.frame.proofs.numbers.query_numbers.Goals as goal

pub returns : goal.returns
returns c =
    subst (λ (s : List ℕ). IfOk c.item_numbers.result (λ numbers. numbers.items ≡ s))
    (two (λ (numbers : List ℕ) items. map (item_number (numbers ∷ [])) items)
    (c.as_slice-2.ensures.value ∙ c.in_ok-numbers.ensures ∙ ap (λ instances. numbers_of instances (out-Block c.args.query.now.block).from) c.as_slice.ensures) c.as_slice-3.ensures
    ∙ item-numbers c.args.query.now)
    c.item_numbers.ensures
