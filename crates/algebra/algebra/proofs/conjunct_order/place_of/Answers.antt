use Rattle.std.proofs.Common.{◌∙◌, ap, ◌+◌, List, arith}
use Rattle.std.specs.List.{position_or_len}
use Rattle.std.proofs.lemmas.List.{take_rest}
use Rattle.algebra.specs.declared.condition.Condition.{Condition}
use Rattle.algebra.specs.ConjunctOrder.{ends_search}
use Rattle.algebra.proofs.Searches.{search-behind}
use Rattle.algebra.proofs.conjunct_order.place_of.Goals as goal

pub returns : goal.returns
returns c =
    let before = c.count_before-before.result in
    let order = c.args.order.now in
    ap (λ n. before + n) (c.end_of_search.ensures.place ∙ ap (λ (ds : List Condition). position_or_len (ends_search c.args.new.now) ds) (take_rest order before))
    ∙ search-behind c.args.new.now order before c.count_before-before.ensures.within (λ k x lt. c.count_before-before.ensures.before.0 k x (omega arith) lt)
