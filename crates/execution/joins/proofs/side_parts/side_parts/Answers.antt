use Rattle.std.proofs.Common.{ap, ◌∙◌, [], ◌∷◌, ◌++◌}
use Rattle.algebra.specs.Columns.{columns_at, has}
use Rattle.algebra.specs.Bags.{lay}
use Rattle.algebra.specs.Conditions.{holds}
use Rattle.physical.specs.Outputs.{no_classes}
use Rattle.joins.proofs.side_parts.side_parts.Goals as goal

pub returns : goal.returns
returns c = λ s r h.
    let same = ap (λ l. columns_at l 0) (c.as_slice.ensures.value ∙ c.in_ok-push.ensures.items ∙ ap (λ l. l ++ c.in_ok-copy.field-0 ∷ []) c.new-columns.ensures.items) ∙ c.in_ok-copy.ensures in
    c.in_ok-add_parts.ensures.all s r (ap (λ C. holds no_classes C r) c.new-parts.ensures) (ap (λ B. holds no_classes c.args.conditions.now (lay (has B) s r)) same ∙ h)
