use Rattle.std.proofs.Common.{ap, ◌∙◌}
use Rattle.physical.specs.Outputs.{join_columns, join_rows}
use Rattle.relations.specs.Relations.{env_of, rows_of}
use Rattle.joins.proofs.Outputs.{restated}
use Rattle.joins.proofs.matchings.matched.Goals as goal

pub returns-in_ok-left-in-Hash : goal.returns-in_ok-left-in-Hash
returns-in_ok-left-in-Hash c =
    let m = c.args.matching.now in
    let sides = c.in_ok-left-in-Hash in
    let is = sides.ensures in
    restated c.matched_so-in-Hash.result _ _ _ _ (env_of c.args.env.now)
    (ap (join_columns m sides.left.heading.columns) is.right_columns ∙ ap (λ L. join_columns m L c.args.right.heading.columns) is.left_columns)
    (ap (λ R. join_rows m R (rows_of sides.left) (rows_of sides.right) (env_of c.args.env.now)) is.right_columns ∙ is.rows_are)
    c.matched_so-in-Hash.ensures
