use Rattle.std.proofs.Common.{◌≡◌, ap, sym, ◌∙◌, List, ◌++◌, [], append-nil}
use Rattle.algebra.specs.declared.condition.Condition.{Condition}
use Rattle.algebra.specs.Bags.{Env, left_join, nulls}
use Rattle.algebra.specs.Columns.{has}
use Rattle.algebra.specs.Conditions.{holds}
use Rattle.physical.specs.Outputs.{no_classes}
use Rattle.relations.specs.Relations.{rows_of}
use Rattle.joins.specs.declared.pairs.Unmatched.TheVariants.{Padded}
use Rattle.joins.specs.ChunkedJoins.{joined_to_come}
use Rattle.joins.specs.JoinStages.{Joining}
use Rattle.joins.specs.LeftRows.{rows_or_none}
use Rattle.joins.proofs.ChunkedPairs.{join-restated}
use Rattle.joins.proofs.JoinChains.{rows-above}
use Rattle.joins.proofs.chunked.ChunkedJoin.left.Goals as goal

pub returns-in_ok-stage-in-Some : goal.returns-in_ok-stage-in-Some
returns-in_ok-stage-in-Some c =
    let first = c.args.left.first in
    let right = c.args.right in
    let C = c.args.conjuncts.now in
    let rest = c.in-Some.rest in
    let stage = c.in_ok-stage-in-Some.stage in
    let is = c.in_ok-stage-in-Some.ensures in
    let R = right.heading.columns in
    let all : List Condition → List Env → List Env = λ D more. left_join (holds no_classes D) (has R) (λ e. rows_of first nulls ++ more) (rows_of right) nulls in
    join-restated c.below.result _ _ _ _
    (ap (λ (j : Joining). j.columns) is.joining_is)
    (rows-above Padded (C ++ []) first.heading.columns right (rows_of first nulls) (joined_to_come rest) stage is
    ∙ ap (all (C ++ [])) (sym (ap rows_or_none c.in-Some.is))
    ∙ ap (λ D. all D (rows_or_none c.args.left.rest)) (append-nil C))
    c.below.ensures
