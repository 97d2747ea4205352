use Rattle.std.proofs.Common.{ap, sym, ◌∙◌}
use Rattle.std.specs.List.{list_all, list_any}
use Rattle.values.specs.Truth.{is_true}
use Rattle.relations.specs.declared.resolved.Test.{Test}
use Rattle.relations.specs.Parts.{row_at}
use Rattle.relations.specs.Resolved.{inner_row, test_truth}
use Rattle.relations.proofs.Tests.{true-And, true-Or}
use Rattle.relations.proofs.resolved.+passes.Goals as goal

pub is_true_at-returns-in-And : goal.is_true_at-returns-in-And
is_true_at-returns-in-And t c =
    let l = inner_row c.args.beside.now in
    let r = row_at c.args.right.now.rows.parts.items c.args.number in
    c.passes_all.ensures ∙ ap (list_all (λ t. is_true (test_truth t l r))) c.as_slice.ensures
    ∙ sym (ap (λ (t : Test). is_true (test_truth t l r)) c.in-And.is ∙ true-And c.in-And.parts l r)

pub is_true_at-returns-in-Or : goal.is_true_at-returns-in-Or
is_true_at-returns-in-Or t c =
    let l = inner_row c.args.beside.now in
    let r = row_at c.args.right.now.rows.parts.items c.args.number in
    c.passes_some.ensures ∙ ap (list_any (λ t. is_true (test_truth t l r))) c.as_slice-in-Or.ensures
    ∙ sym (ap (λ (t : Test). is_true (test_truth t l r)) c.in-Or.is ∙ true-Or c.in-Or.parts l r)
