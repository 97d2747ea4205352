use Rattle.std.proofs.Common.{ap, sym, ◌∙◌, filter}
use Rattle.values.specs.Truth.{is_true}
use Rattle.relations.specs.declared.resolved.Test.{Test}
use Rattle.relations.specs.Parts.{row_at}
use Rattle.relations.specs.Resolved.{inner_row, test_truth}
use Rattle.relations.proofs.Tests.{test-Compare}
use Rattle.relations.proofs.passing.keep_true_at.Goals as goal

pub returns-in-Compare : goal.returns-in-Compare
returns-in-Compare c =
    let l = inner_row c.args.beside.now in
    let parts = c.args.right.now.rows.parts.items in
    let f = c.in-Compare in
    c.keep_compared_operands.ensures
    ∙ λ i. filter (λ n. sym (ap (λ (t : Test). is_true (test_truth t l (row_at parts n))) f.is ∙ ap is_true (test-Compare f.comparison f.first f.second l (row_at parts n))) i) c.args.rows.now.items
