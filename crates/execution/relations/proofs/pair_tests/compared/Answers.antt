use Rattle.std.proofs.Common.{rules, ap, sym, ◌∙◌, FitsSigned, of_z, to_z, w64}
use Rattle.std.proofs.lemmas.Int.{to_z-of_z}
use Rattle.values.specs.declared.truth.Comparison.{Comparison}
use Rattle.values.specs.declared.value.Value.{Value}
use Rattle.values.specs.declared.value.Value.TheVariants as value
use Rattle.values.specs.Truth.{compare}
use Rattle.relations.proofs.PairTests.{pair-Compare, pair-Number}
use Rattle.relations.specs.PairTests.{side_value}
use Rattle.relations.specs.RowColumns.{number_value}
use Rattle.relations.proofs.pair_tests.compared.Goals as goal

pub returns-in_default : goal.returns-in_default
returns-in_default c = λ i j. pair-Compare c.args.comparison c.args.first c.args.second i j

pub returns-in_default-right_numbers : goal.returns-in_default-right_numbers
returns-in_default-right_numbers c = λ i j. pair-Compare c.args.comparison c.args.first c.args.second i j

pub returns : goal.returns
returns c = λ i j.
    let known = c.in-Some.known in
    let numbers = c.in-Some-right_numbers.numbers in
    let fits : FitsSigned w64 known = search rules in
    pair-Number c.by.result _ numbers i j
    ∙ ap (λ (d : Comparison). compare d (value.Int (to_z w64 (of_z w64 known))) (number_value numbers j)) c.by.ensures
    ∙ ap (λ z. compare c.args.comparison (value.Int z) (number_value numbers j)) (to_z-of_z w64 known fits)
    ∙ ap (λ (v : Value). compare c.args.comparison v (number_value numbers j)) (sym (c.in-Some.ensures i j))
    ∙ ap (λ (v : Value). compare c.args.comparison (side_value c.args.first i j) v) (sym (c.in-Some-right_numbers.ensures i j))
