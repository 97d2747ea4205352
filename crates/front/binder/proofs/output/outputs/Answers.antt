use Rattle.std.proofs.Common.{◌≡◌, ◌∙◌, sym, ap, refl, List, Bool, true, false}
use Rattle.std.specs.List.{list_all}
use Rattle.binder.specs.declared.output.Output.{Output}
use Rattle.binder.specs.Outputs.{is_shown, all_columns}
use Rattle.binder.proofs.output.outputs.Goals as goal

pub returns-then-not-are_shown : goal.returns-then-not-are_shown
returns-then-not-are_shown c =
    let g = c.args.grouping in
    let shown : List Output → Bool = λ outputs. list_all (λ o. is_shown g.grouped g.keys.now o.item) outputs in
    let no : shown (all_columns 0 c.args.own.now) ≡ false = sym (c.are_shown.ensures ∙ ap shown (c.as_slice-in-Star.ensures ∙ c.in_ok-outputs-in-Star.ensures)) ∙ c.if-not-are_shown.true in
    rw (c.refused.ensures, c.in-Star.is, no) refl

pub returns-else-not-are_shown : goal.returns-else-not-are_shown
returns-else-not-are_shown c =
    let g = c.args.grouping in
    let shown : List Output → Bool = λ outputs. list_all (λ o. is_shown g.grouped g.keys.now o.item) outputs in
    let yes : shown (all_columns 0 c.args.own.now) ≡ true = sym (c.are_shown.ensures ∙ ap shown (c.as_slice-in-Star.ensures ∙ c.in_ok-outputs-in-Star.ensures)) ∙ c.if-not-are_shown.false in
    rw (c.in-Star.is, yes, c.in_ok-outputs-in-Star.ensures) refl
