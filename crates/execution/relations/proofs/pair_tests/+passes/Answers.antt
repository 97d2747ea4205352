use Rattle.std.proofs.Common.{rules, ap, sym, ◌∙◌, FitsSigned, w64}
use Rattle.std.proofs.lemmas.Int.{to_z-of_z}
use Rattle.values.specs.declared.value.Value.TheVariants as value
use Rattle.std.specs.List.{list_all, list_any}
use Rattle.values.specs.Truth.{compare, is_true}
use Rattle.relations.specs.declared.pair_tests.PairTest.{PairTest}
use Rattle.relations.specs.PairTests.{pair_truth}
use Rattle.relations.proofs.PairTests.{pair-Compare, pair-Number, true-And, true-Or}
use Rattle.relations.specs.RowColumns.{number_value}
use Rattle.relations.proofs.pair_tests.+passes.Goals as goal

pub is_true_of_pair-returns-in-Number : goal.is_true_of_pair-returns-in-Number
is_true_of_pair-returns-in-Number t c =
    let f = c.in-Number in
    let fits : FitsSigned w64 f.known = search rules in
    c.is_true_number.ensures
    ∙ ap (λ z. is_true (compare f.admitted.comparison (value.Int z) (number_value f.column c.args.right))) (to_z-of_z w64 f.known fits)
    ∙ sym (ap (λ (t : PairTest). is_true (pair_truth t c.args.left c.args.right)) c.in-Number.is ∙ ap is_true (pair-Number _ _ _ c.args.left c.args.right))

pub is_true_of_pair-returns-in-Compare : goal.is_true_of_pair-returns-in-Compare
is_true_of_pair-returns-in-Compare t c =
    c.is_true_compared.ensures ∙ sym (ap (λ (t : PairTest). is_true (pair_truth t c.args.left c.args.right)) c.in-Compare.is ∙ ap is_true (pair-Compare _ _ _ c.args.left c.args.right))

pub is_true_of_pair-returns-in-And : goal.is_true_of_pair-returns-in-And
is_true_of_pair-returns-in-And t c =
    c.all_true_of_pair.ensures ∙ ap (list_all (λ t. is_true (pair_truth t c.args.left c.args.right))) c.as_slice.ensures
    ∙ sym (ap (λ (t : PairTest). is_true (pair_truth t c.args.left c.args.right)) c.in-And.is ∙ true-And c.in-And.parts c.args.left c.args.right)

pub is_true_of_pair-returns-in-Or : goal.is_true_of_pair-returns-in-Or
is_true_of_pair-returns-in-Or t c =
    c.some_true_of_pair.ensures ∙ ap (list_any (λ t. is_true (pair_truth t c.args.left c.args.right))) c.as_slice-in-Or.ensures
    ∙ sym (ap (λ (t : PairTest). is_true (pair_truth t c.args.left c.args.right)) c.in-Or.is ∙ true-Or c.in-Or.parts c.args.left c.args.right)
