use Rattle.std.proofs.Common.{◌≡◌, ap, sym, ◌∙◌, List, ◌++◌}
use Rattle.algebra.specs.Bags.{Bag, Env, join, nulls}
use Rattle.algebra.specs.Columns.{has}
use Rattle.algebra.specs.Conditions.{holds}
use Rattle.physical.specs.Outputs.{no_classes}
use Rattle.relations.specs.Relations.{rows_of}
use Rattle.joins.specs.declared.pairs.Unmatched.TheVariants.{Dropped}
use Rattle.joins.specs.ChunkedJoins.{joined_to_come}
use Rattle.joins.specs.JoinStages.{Joining}
use Rattle.joins.specs.LeftRows.{rows_or_none}
use Rattle.joins.proofs.ChunkedPairs.{join-restated}
use Rattle.joins.proofs.FilteredJoins.{conditions-both}
use Rattle.joins.proofs.JoinChains.{rows-above}
use Rattle.joins.proofs.chunked.ChunkedJoin.inner.Goals as goal

pub returns-in_ok-stage-in-Some : goal.returns-in_ok-stage-in-Some
returns-in_ok-stage-in-Some c =
    let first = c.args.left.first in
    let right = c.args.right in
    let C = c.args.conjuncts.now in
    let F = c.args.filter.now in
    let rest = c.in-Some.rest in
    let stage = c.in_ok-stage-in-Some.stage in
    let is = c.in_ok-stage-in-Some.ensures in
    let R = right.heading.columns in
    let all : List Env → List Env = λ more. join (holds no_classes (C ++ F)) (has R) (λ e. rows_of first nulls ++ more) (rows_of right) nulls in
    let lefts : Bag = λ e. rows_of first nulls ++ rows_or_none c.args.left.rest in
    join-restated c.below.result _ _ _ _
    (ap (λ (j : Joining). j.columns) is.joining_is)
    (rows-above Dropped (C ++ F) first.heading.columns right (rows_of first nulls) (joined_to_come rest) stage is
    ∙ ap all (sym (ap rows_or_none c.in-Some.is))
    ∙ (λ i. conditions-both C F (has R) lefts (rows_of right) i nulls))
    c.below.ensures
