use Rattle.std.proofs.Common.{◌∙◌}
use Rattle.algebra.specs.Bags.{nulls}
use Rattle.algebra.specs.Conditions.{holds}
use Rattle.physical.specs.Outputs.{no_classes}
use Rattle.relations.specs.Relations.{rows_of}
use Rattle.joins.proofs.ChunkedPairs.{pairs-of-all, rows-beside}
use Rattle.joins.proofs.stages.JoinStage.restart.Goals as goal

pub returns-in_ok-self-clause-rows : goal.returns-in_ok-self-clause-rows
returns-in_ok-self-clause-rows c =
    let j = c.args.self.now in
    let C = j.conditions.items in
    pairs-of-all j.unmatched C c.args.left j.right nulls ∙ rows-beside j.unmatched (holds no_classes C) j.right.heading.columns (rows_of c.args.left) (rows_of j.right) nulls

pub returns-in_default-clause-rows : goal.returns-in_default-clause-rows
returns-in_default-clause-rows c =
    let j = c.args.self.now in
    let C = j.conditions.items in
    pairs-of-all j.unmatched C c.args.left j.right nulls ∙ rows-beside j.unmatched (holds no_classes C) j.right.heading.columns (rows_of c.args.left) (rows_of j.right) nulls
