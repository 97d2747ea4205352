use Rattle.std.proofs.Common.{rules, tests, ◌∙◌, ap, sym, filter, length}
use Rattle.std.proofs.lemmas.Iterator.{YieldsList-from_slice}
use Rattle.std.proofs.lemmas.Iterator.Consumers.{YieldsList-from_filter, count_from_yields_List}
use Rattle.binder.specs.Outputs.{is_aggregate, aggregates}
use Rattle.binder.proofs.output.aggregates.Goals as goal

pub returns-in-Items : goal.returns-in-Items
returns-in-Items c =
    count_from_yields_List c.filter.result c.count.result c.count.ensures.ran (YieldsList-from_filter _ is_aggregate (YieldsList-from_slice c.as_slice.result.now (rw c.filter.ensures.source c.iter.ensures.rest)) c.filter.ensures.closure (λ x r q k. search (rules, tests)))
    ∙ ap (λ items. length (filter is_aggregate items)) c.as_slice.ensures
    ∙ sym (ap aggregates c.in-Items.is)
