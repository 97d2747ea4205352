use Rattle.std.proofs.Common.{sym, subst, ◌∙◌, List}
use Rattle.algebra.specs.declared.condition.Condition.{Condition}
use Rattle.algebra.specs.Columns.{has}
use Rattle.algebra.specs.Conditions.{holds}
use Rattle.physical.specs.Outputs.{no_classes}
use Rattle.relations.specs.Relations.{env_of}
use Rattle.joins.specs.SideParts.{IsPart}
use Rattle.joins.proofs.Outputs.{both-ok}
use Rattle.joins.proofs.SideParts.{restricted-left}
use Rattle.joins.proofs.side_parts.restricted_left.Goals as goal

pub returns : goal.returns
returns c =
    let right = c.args.right.now in
    let C = c.args.conditions.now in
    let e = env_of c.args.env.now in
    let part = subst (λ (P : List Condition). IsPart (has right.heading.columns) (holds no_classes C) (holds no_classes P)) (sym c.as_slice.ensures) c.in_ok-parts.ensures in
    both-ok c.chosen.result _ _ _
    (λ l. restricted-left C c.as_slice.result.now c.args.left right l e c.as_slice-2.result.now part (c.as_slice-2.ensures.value ∙ c.in_ok-kept.ensures))
    c.chosen.ensures.columns (c.chosen.ensures.rows e)
