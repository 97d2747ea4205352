use Rattle.std.proofs.Common.{◌≡◌, ap, ◌∙◌, ◌-◌, filter, map, arith}
use Rattle.std.specs.List.{range_with_len}
use Rattle.relations.specs.Relations.{env_of, numbered_env}
use Rattle.relations.specs.Resolved.{all_pass, inner_row}
use Rattle.cursors.proofs.Selections.{reported}
use Rattle.cursors.proofs.projected.drained.Goals as goal

pub returns : goal.returns
returns c =
    let r = c.args.selected.relation in
    let p = all_pass r (inner_row c.args.env.now) c.args.selected.tests.items in
    let e = env_of c.args.env.now in
    let all : r.rows.count - 0 ≡ r.rows.count = omega arith in
    reported c.chosen.result _ _ _ e c.chosen.ensures.columns (c.chosen.ensures.rows e)
    (ap (map (numbered_env r e)) (c.as_slice.ensures.value ∙ c.in_ok-fill_selected.ensures ∙ ap (λ n. filter p (range_with_len 0 n)) all))
