use Rattle.std.proofs.Common.{rules, ap, sym, ◌∙◌, filter}
use Rattle.std.specs.List.{list_any}
use Rattle.std.proofs.lemmas.Fn.{filter_same}
use Rattle.values.specs.Truth.{is_true}
use Rattle.relations.specs.declared.pair_tests.PairTest.{PairTest}
use Rattle.relations.specs.PairTests.{pair_truth}
use Rattle.relations.proofs.PairTests.{true-Or}
use Rattle.relations.proofs.passing.keep_true_of_pair.Goals as goal

pub returns-in-Or : goal.returns-in-Or
returns-in-Or c =
    let parts = c.in-Or.parts in
    filter_same _ (λ n. list_any (λ t. is_true (pair_truth t 0 n)) parts) _ (λ x b f' k. search rules) _ _ c.retain.ensures.filtered
    ∙ λ i. filter (λ n. sym (ap (λ (t : PairTest). is_true (pair_truth t 0 n)) c.in-Or.is ∙ true-Or parts 0 n) i) c.args.rows.now.items

pub returns-in_default : goal.returns-in_default
returns-in_default c = filter_same _ (λ n. is_true (pair_truth c.args.test.now 0 n)) _ (λ x b f' k. search rules) _ _ c.retain-in_default.ensures.filtered
