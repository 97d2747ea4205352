use Rattle.std.proofs.Common.{◌∙◌, ℕ, Bool, sym}
use Rattle.relations.specs.PairTests.{pairs_pass}
use Rattle.relations.proofs.Numbers.{any_found, any_number}
use Rattle.operators.proofs.existence.some_pass.Goals as goal

pub returns-then-all_true_of_pair : goal.returns-then-all_true_of_pair
returns-then-all_true_of_pair c =
    let p : ℕ → Bool = pairs_pass c.args.tests.now 0 in
    sym (any_found p c.loop-number.number c.args.count c.loop-number-test.true (sym c.all_true_of_pair.ensures ∙ c.if-all_true_of_pair.true))

pub loop-number-preserved : goal.loop-number-preserved
loop-number-preserved c =
    let p : ℕ → Bool = pairs_pass c.args.tests.now 0 in
    any_number p c.loop-number.number c.loop-number.invariant (sym c.all_true_of_pair.ensures ∙ c.if-all_true_of_pair.false)
