use Rattle.std.proofs.Common.{ap, ◌∙◌, filter}
use Rattle.values.specs.Truth.{is_true}
use Rattle.relations.proofs.passing.keep_tested.Goals as goal

pub returns : goal.returns
returns c = c.keep_true_of_pair.ensures ∙ λ i. filter (λ n. ap is_true (c.in_ok-test.ensures 0 n) i) c.args.rows.now.items
