use Rattle.std.proofs.Common.{ap, ◌∙◌, length, ◌==◌}
use Rattle.props.proofs.KeySets.{none-came, same-items}
use Rattle.props.proofs.keys.Keys.is_empty.Goals as goal

pub returns-in-Some : goal.returns-in-Some
returns-in-Some c =
    ap (λ n. n == 0) (rw c.deref.ensures at c.len.ensures.len) ∙ none-came (λ own. own.items) _ (λ x y. same-items x.items y.items) c.in-Some.keys.value.keys
    ∙ ap (λ keys. length keys == 0) (rw c.in-Some.is at c.self.view_is)
