use Rattle.std.proofs.Common.{sym, ◌∙◌, arith}
use Rattle.grouping.specs.KeyBuckets.{same_in}
use Rattle.grouping.proofs.RunPlaces.{continues-before}
use Rattle.grouping.proofs.runs.continues.Goals as goal

pub returns : goal.returns
returns c = c.are_same.ensures ∙ sym (continues-before (same_in c.args.columns.now) c.args.number (omega (arith, c.if-number-eq0.false)))
