use Rattle.std.proofs.Common.{sym, subst, ◌∙◌, List}
use Rattle.std.specs.List.{AllByRecursion}
use Rattle.relations.specs.Relations.{env_of}
use Rattle.joins.specs.declared.keys.Equality.{Equality}
use Rattle.joins.specs.Keys.{IsEquated}
use Rattle.joins.specs.KeyMarks.{has_mark, right_key}
use Rattle.joins.proofs.KeyMarks.{right-marked}
use Rattle.joins.proofs.Outputs.{both-ok}
use Rattle.joins.proofs.SideParts.{kept-rows}
use Rattle.joins.proofs.key_marks.with_left_keys.Goals as goal

pub returns : goal.returns
returns c =
    let left = c.args.left.now in
    let right = c.args.right in
    let C = c.args.conditions.now in
    let e = env_of c.args.env.now in
    let keys : List Equality = c.as_slice.result.now in
    let equated : AllByRecursion (IsEquated C left right e) keys = subst (AllByRecursion (IsEquated C left right e)) (sym c.as_slice.ensures.value) c.in_ok-keys.ensures in
    let marked = c.in_ok-kept.ensures in
    both-ok c.chosen.result _ _ _
    (λ r. kept-rows C left right r e (has_mark (right_key keys right) marked.0) c.as_slice-2.result.now (right-marked C left right e keys marked.0 equated marked.1.0) (c.as_slice-2.ensures.value ∙ marked.1.1))
    c.chosen.ensures.columns (c.chosen.ensures.rows e)
