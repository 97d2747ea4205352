use Rattle.std.proofs.Common.{refl, ◌∙◌}
use Rattle.algebra.specs.Bags.{nulls}
use Rattle.algebra.specs.Conditions.{holds}
use Rattle.physical.specs.Outputs.{no_classes}
use Rattle.relations.specs.Relations.{rows_of}
use Rattle.joins.proofs.ChunkedPairs.{pairs-of-all, rows-beside}
use Rattle.joins.proofs.stages.JoinStage.new.Goals as goal

pub returns : goal.returns
returns c =
    let left = c.args.left in
    let right = c.args.right in
    let C = c.args.conditions.items in
    record { joining_is = refl; rows_are = pairs-of-all c.args.unmatched C left right nulls ∙ rows-beside c.args.unmatched (holds no_classes C) right.heading.columns (rows_of left) (rows_of right) nulls }
