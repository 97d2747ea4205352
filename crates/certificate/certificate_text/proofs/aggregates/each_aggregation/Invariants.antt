use Rattle.std.proofs.Common.{take}
use Rattle.certificate_text.specs.PartTexts.{aggregation_text}
use Rattle.certificate_text.specs.Spelled.{IsShortAggregation}
use Rattle.certificate_text.proofs.NumberLists.{texts}
use Rattle.certificate_text.proofs.PartLists.{EachSoFar}
use Rattle.certificate_text.proofs.aggregates.each_aggregation.Given as goal

-- the parts so far are read
abbrev pub invariant-loop-part : goal.invariant-loop-part
invariant-loop-part l = EachSoFar aggregation_text IsShortAggregation (take l.part-index (texts l.parts)) l.in_range l.added
