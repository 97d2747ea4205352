use Rattle.std.proofs.Common.{refl, ap, ◌∙◌}
use Rattle.algebra.specs.Columns.{are_disjoint}
use Rattle.algebra.specs.GivenColumns.{given_columns}
use Rattle.algebra.proofs.MentionedColumns.{apart_turned}
use Rattle.algebra.proofs.condition.Condition.is_without.Goals as goal

pub returns : goal.returns
returns c =
    c.has_none.ensures ∙ ap (λ xs. are_disjoint xs (given_columns c.args.classes c.args.class)) c.as_slice.ensures.value
    ∙ apart_turned c.add_mentioned.new.mentioned.items (given_columns c.args.classes c.args.class) _ (λ k. c.in_ok-add_mentioned.ensures k ∙ rw c.new-mentioned.ensures.items refl)
