use Rattle.std.proofs.Common.{rules, tests, ◌∙◌, ap, length, unwrap_or}
use Rattle.std.proofs.lemmas.Iterator.{YieldsList-from_slice}
use Rattle.std.proofs.lemmas.Iterator.Search.{position_from_yields_List}
use Rattle.algebra.specs.AggregateOrder.{ends_search}
use Rattle.algebra.proofs.Places.{place-or-len}
use Rattle.algebra.proofs.aggregations.place_of.Goals as goal

pub returns : goal.returns
returns c =
    c.unwrap_or.ensures ∙ ap (λ o. unwrap_or o (length c.args.order.now)) (position_from_yields_List (ends_search c.args.new) _ _ c.position-place.result c.position-place.ensures.ran (YieldsList-from_slice c.args.order.now c.iter.ensures.rest) (λ x b q k. search (rules, tests)))
    ∙ place-or-len (ends_search c.args.new) c.args.order.now
