use Rattle.std.proofs.Common.{sym, ◌∙◌, ℕ, Bool, arith}
use Rattle.values.specs.Truth.{is_true}
use Rattle.relations.specs.declared.resolved.Test.{Test}
use Rattle.relations.specs.Parts.{row_at}
use Rattle.relations.specs.Resolved.{inner_row, test_truth}
use Rattle.relations.proofs.Narrowed.{filter_none, narrowed-more}
use Rattle.relations.proofs.passing.keep_passing_at.Goals as goal

pub loop-test-init : goal.loop-test-init
loop-test-init c = sym (filter_none c.args.rows.now.items)

pub loop-test-preserved : goal.loop-test-preserved
loop-test-preserved c =
    let passes : ℕ → Test → Bool = λ n t. is_true (test_truth t (inner_row c.args.beside.now) (row_at c.args.right.now.rows.parts.items n)) in
    c.keep_true_at.ensures
    ∙ narrowed-more passes c.args.tests.now c.loop-test.test-index c.test-item.result (omega arith) c.test-item.is c.args.rows.now.items c.loop-test.rows.items c.loop-test.invariant
