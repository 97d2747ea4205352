use Rattle.std.proofs.Common.{◌≡◌, ◌-◌, subst, List, OnOk, filter}
use Rattle.std.specs.List.{range_with_len}
use Rattle.relations.specs.declared.resolved.Test.{Test}
use Rattle.relations.specs.Resolved.{all_pass, inner_row}
use Rattle.cursors.proofs.selected.fill_selected.Goals as goal

pub returns : goal.returns
returns c =
    let r = c.args.selected.now.relation in
    let l = inner_row c.args.env.now in
    subst (λ (tests : List Test). OnOk c.fill_passing.result (c.fill_passing.new.rows.items ≡ filter (all_pass r l tests) (range_with_len c.args.start (c.args.end - c.args.start)))) c.as_slice-tests.ensures.value c.fill_passing.ensures
