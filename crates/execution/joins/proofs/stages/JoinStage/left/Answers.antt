use Rattle.std.proofs.Common.{ap, ◌∙◌, ◌++◌}
use Rattle.algebra.specs.Bags.{left_join, nulls}
use Rattle.algebra.specs.Columns.{has, rising}
use Rattle.algebra.specs.Conditions.{holds}
use Rattle.physical.specs.declared.plan.Matching.TheVariants.{Left}
use Rattle.physical.specs.Outputs.{no_classes}
use Rattle.relations.specs.Relations.{rows_of}
use Rattle.joins.specs.declared.pairs.Unmatched.TheVariants.{Padded}
use Rattle.joins.proofs.ChunkedPairs.{stage-restated}
use Rattle.joins.proofs.SideParts.{right-in-place}
use Rattle.joins.proofs.stages.JoinStage.left.Goals as goal

pub returns : goal.returns
returns c =
    let right = c.in_ok-right in
    let C = c.args.conjuncts.now in
    let A = c.add_copies.new.copies.items in
    let all = c.in_ok-add_copies.ensures ∙ ap (λ l. l ++ C) c.new-all.ensures.items in
    let is = right-in-place (Left C) C c.args.left c.args.right nulls right.right (λ x h. h) right.ensures in
    stage-restated c.new.result Padded A c.args.left.heading.columns right.right (rows_of c.args.left nulls) _ _
    (ap (λ K. rising (c.args.left.heading.columns ++ K)) is.right_columns)
    (ap (λ K. left_join (holds no_classes A) (has K) (rows_of c.args.left) (rows_of right.right) nulls) is.right_columns
    ∙ ap (λ D. left_join (holds no_classes D) (has c.args.right.heading.columns) (rows_of c.args.left) (rows_of right.right) nulls) all
    ∙ is.rows_are)
    c.new.ensures
