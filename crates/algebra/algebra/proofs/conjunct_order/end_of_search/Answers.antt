use Rattle.std.proofs.Common.{rules, tests, ◌∙◌, ap, length, unwrap_or}
use Rattle.std.proofs.lemmas.Iterator.{YieldsList-from_slice}
use Rattle.std.proofs.lemmas.Iterator.Search.{position_from_yields_List}
use Rattle.algebra.specs.ConjunctOrder.{ends_search}
use Rattle.algebra.proofs.Places.{place-or-len}
use Rattle.algebra.proofs.conjunct_order.end_of_search.Goals as goal

pub returns-clause-place : goal.returns-clause-place
returns-clause-place c =
    c.unwrap_or.ensures ∙ ap (λ o. unwrap_or o (length c.args.order.now)) (position_from_yields_List (ends_search c.args.new.now) _ _ c.position-place.result c.position-place.ensures.ran (YieldsList-from_slice c.args.order.now c.iter.ensures.rest) (λ x b q k. search (rules, tests)))
    ∙ place-or-len (ends_search c.args.new.now) c.args.order.now
