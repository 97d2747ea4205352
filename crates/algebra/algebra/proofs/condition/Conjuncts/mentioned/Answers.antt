use Rattle.std.proofs.Common.{ap, ◌∙◌}
use Rattle.algebra.specs.Columns.{has}
use Rattle.algebra.specs.Expressions.{mentioned}
use Rattle.algebra.specs.GivenColumns.{given_columns, given_free}
use Rattle.algebra.proofs.Sets.{has-rising}
use Rattle.algebra.proofs.condition.Conjuncts.mentioned.Goals as goal

pub returns : goal.returns
returns c k =
    ap (λ xs. has xs k) c.from_vec.ensures ∙ has-rising k c.add_all_mentioned.new.mentioned.items ∙ c.in_ok-add_all_mentioned.ensures k
    ∙ rw c.new-mentioned.ensures.items (ap (λ C. mentioned (given_columns c.args.classes) (given_free c.args.classes) C k) c.as_slice.ensures.conditions)
