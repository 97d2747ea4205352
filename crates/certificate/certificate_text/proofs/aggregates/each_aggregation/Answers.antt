use Rattle.std.proofs.Common.{◌∙◌}
use Rattle.certificate_text.specs.PartTexts.{aggregation_text}
use Rattle.certificate_text.specs.Spelled.{IsShortAggregation}
use Rattle.certificate_text.proofs.AggregateLists.{any}
use Rattle.certificate_text.proofs.PartLists.{place_more, place_past, place_none}
use Rattle.certificate_text.proofs.aggregates.each_aggregation.Goals as goal
use Rattle.certificate_text.proofs.aggregates.each_aggregation.Goals.{in-Some+in_ok-push-in-Some, in-None}

pub returns-in_err-aggregation : goal.returns-in_err-aggregation
returns-in_err-aggregation c =
    place_none aggregation_text IsShortAggregation any c.args.parts.now c.loop-part.part-index _ (λ a. a) c.in_err-aggregation.field-0.0 c.from_residual.result c.loop-part-test.true c.in_err-aggregation.ensures c.from_residual.ensures.1

pub loop-part-preserved : goal.loop-part-preserved
loop-part-preserved c = elim c.match-branch-2.branch [
  | in-Some+in_ok-push-in-Some w ↦ place_more aggregation_text IsShortAggregation c.args.parts.now c.loop-part.part-index _ c.loop-part.in_range c.match-branch-2.in_range c.loop-part.added c.match-branch-2.added c.in_ok-aggregation.field-0 w.in-Some.aggregation
      c.loop-part-test.true c.loop-part.invariant c.in_ok-aggregation.ensures w.in-Some.is w.in_range-is (w.added-is ∙ w.in_ok-push-in-Some.ensures.ok)
  | in-None w ↦ place_past aggregation_text IsShortAggregation c.args.parts.now c.loop-part.part-index _ c.loop-part.in_range c.match-branch-2.in_range c.loop-part.added c.match-branch-2.added c.in_ok-aggregation.field-0
      c.loop-part-test.true c.loop-part.invariant c.in_ok-aggregation.ensures w.in-None.is w.in_range-is
]
