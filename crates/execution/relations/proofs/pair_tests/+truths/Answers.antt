use Rattle.std.proofs.Common.{rules, ap, sym, ◌∙◌, FitsSigned, w64}
use Rattle.std.proofs.lemmas.Int.{to_z-of_z}
use Rattle.values.specs.declared.value.Value.TheVariants as value
use Rattle.values.specs.Truth.{compare}
use Rattle.relations.specs.declared.pair_tests.PairTest.{PairTest}
use Rattle.relations.specs.PairTests.{pair_truth}
use Rattle.relations.proofs.PairTests.{pair-And, pair-Compare, pair-IsNull, pair-Not, pair-Number, pair-OfNoRows, pair-Or}
use Rattle.relations.specs.RowColumns.{number_value}
use Rattle.relations.proofs.pair_tests.+truths.Goals as goal

pub truth_of_pair-returns-in-Number : goal.truth_of_pair-returns-in-Number
truth_of_pair-returns-in-Number t c =
    let f = c.in-Number in
    let fits : FitsSigned w64 f.known = search rules in
    c.number_truth.ensures
    ∙ ap (λ z. compare f.admitted.comparison (value.Int z) (number_value f.column c.args.right)) (to_z-of_z w64 f.known fits)
    ∙ sym (ap (λ (t : PairTest). pair_truth t c.args.left c.args.right) c.in-Number.is ∙ pair-Number _ _ _ c.args.left c.args.right)

pub truth_of_pair-returns-in-Compare : goal.truth_of_pair-returns-in-Compare
truth_of_pair-returns-in-Compare t c =
    c.compared_truth.ensures ∙ sym (ap (λ (t : PairTest). pair_truth t c.args.left c.args.right) c.in-Compare.is ∙ pair-Compare _ _ _ c.args.left c.args.right)

pub truth_of_pair-returns-in-IsNull : goal.truth_of_pair-returns-in-IsNull
truth_of_pair-returns-in-IsNull t c =
    rw (c.from.ensures, c.is_null.ensures, c.cell.ensures) (sym (ap (λ (t : PairTest). pair_truth t c.args.left c.args.right) c.in-IsNull.is ∙ pair-IsNull c.in-IsNull.column c.args.left c.args.right))

pub truth_of_pair-returns-in-Not : goal.truth_of_pair-returns-in-Not
truth_of_pair-returns-in-Not t c =
    rw (c.not.ensures, c.truth_of_pair.ensures, c.get.ensures) (sym (ap (λ (t : PairTest). pair_truth t c.args.left c.args.right) c.in-Not.is ∙ pair-Not c.in-Not.part c.args.left c.args.right))

pub truth_of_pair-returns-in-And : goal.truth_of_pair-returns-in-And
truth_of_pair-returns-in-And t c =
    rw (c.all_of_pair.ensures, c.as_slice.ensures) (sym (ap (λ (t : PairTest). pair_truth t c.args.left c.args.right) c.in-And.is ∙ pair-And c.in-And.parts c.args.left c.args.right))

pub truth_of_pair-returns-in-Or : goal.truth_of_pair-returns-in-Or
truth_of_pair-returns-in-Or t c =
    rw (c.any_of_pair.ensures, c.as_slice-in-Or.ensures) (sym (ap (λ (t : PairTest). pair_truth t c.args.left c.args.right) c.in-Or.is ∙ pair-Or c.in-Or.parts c.args.left c.args.right))

pub truth_of_pair-returns-in-OfNoRows : goal.truth_of_pair-returns-in-OfNoRows
truth_of_pair-returns-in-OfNoRows t c = sym (ap (λ (t : PairTest). pair_truth t c.args.left c.args.right) c.in-OfNoRows.is ∙ pair-OfNoRows c.args.left c.args.right)
