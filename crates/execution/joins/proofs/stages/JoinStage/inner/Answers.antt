use Rattle.std.proofs.Common.{◌≡◌, ◌∙◌, ap, sym, ◌++◌}
use Rattle.algebra.specs.Bags.{join, nulls}
use Rattle.algebra.specs.Columns.{has, rising}
use Rattle.algebra.specs.Conditions.{holds}
use Rattle.physical.specs.Outputs.{no_classes}
use Rattle.relations.specs.Relations.{rows_of}
use Rattle.joins.specs.declared.pairs.Unmatched.TheVariants.{Dropped}
use Rattle.joins.proofs.ChunkedPairs.{stage-restated}
use Rattle.joins.proofs.FilteredJoins.{conditions-both}
use Rattle.joins.proofs.stages.JoinStage.inner.Goals as goal

pub returns : goal.returns
returns c =
    let sides = c.in_ok-left in
    let left = sides.left in
    let right = sides.right in
    let R = c.args.right.heading.columns in
    let C = c.as_slice.result.now in
    let D = c.args.conjuncts.now ++ c.args.filter.now in
    let is = sides.ensures in
    let A = c.add_copies-2.new.copies.items in
    let all : A ≡ D = c.in_ok-add_copies-2.ensures ∙ ap (λ l. l ++ c.args.filter.now) (c.in_ok-add_copies.ensures ∙ ap (λ l. l ++ c.args.conjuncts.now) c.new-all.ensures.items) in
    stage-restated c.new.result Dropped A left.heading.columns right (rows_of left nulls) _ _
    (ap (λ K. rising (left.heading.columns ++ K)) is.right_columns ∙ ap (λ K. rising (K ++ R)) is.left_columns)
    (ap (λ K. join (holds no_classes A) (has K) (rows_of left) (rows_of right) nulls) is.right_columns
    ∙ ap (λ E. join (holds no_classes E) (has R) (rows_of left) (rows_of right) nulls) all
    ∙ ap (λ E. join (holds no_classes E) (has R) (rows_of left) (rows_of right) nulls) (sym (c.as_slice.ensures.value ∙ all))
    ∙ is.pairs_are
    ∙ ap (λ E. join (holds no_classes E) (has R) (rows_of c.args.left) (rows_of c.args.right) nulls) (c.as_slice.ensures.value ∙ all)
    ∙ (λ i. conditions-both c.args.conjuncts.now c.args.filter.now (has R) (rows_of c.args.left) (rows_of c.args.right) i nulls))
    c.new.ensures
