use Rattle.std.proofs.Common.{rules, ap, sym, ◌∙◌, FitsSigned, w64}
use Rattle.std.proofs.lemmas.Int.{to_z-of_z}
use Rattle.values.specs.declared.value.Value.TheVariants as value
use Rattle.values.specs.Truth.{compare, is_true}
use Rattle.relations.specs.declared.pair_tests.PairTest.{PairTest}
use Rattle.relations.specs.PairTests.{pair_truth}
use Rattle.relations.specs.RowColumns.{number_value}
use Rattle.relations.proofs.PairTests.{pair-Number}
use Rattle.relations.proofs.pair_tests.is_true_of_number.Goals as goal

pub returns-in-Number : goal.returns-in-Number
returns-in-Number c left =
    let f = c.in-Number in
    let fits : FitsSigned w64 f.known = search rules in
    c.is_true_number.ensures
    ∙ ap (λ z. is_true (compare f.admitted.comparison (value.Int z) (number_value f.column c.args.right))) (to_z-of_z w64 f.known fits)
    ∙ sym (ap (λ (t : PairTest). is_true (pair_truth t left c.args.right)) c.in-Number.is ∙ ap is_true (pair-Number _ _ _ left c.args.right))
