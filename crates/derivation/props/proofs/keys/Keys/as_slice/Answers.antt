use Rattle.std.proofs.Common.{ap, ◌∙◌, map}
use Rattle.std.specs.List.{list_any}
use Rattle.props.specs.Keys.{in_order}
use Rattle.props.proofs.KeySets.{any-came, same-items}
use Rattle.props.proofs.keys.Keys.as_slice.Goals as goal

pub returns-in-Some : goal.returns-in-Some
returns-in-Some c p =
    ap (list_any (λ key. p key.items)) c.as_slice.ensures.keys
    ∙ any-came (λ key. key.items) _ (λ x y. same-items x.items y.items) p c.deref.result.now.keys
    ∙ ap (list_any p) (ap (λ keys. in_order (map (λ key. key.items) keys.keys)) c.deref.ensures ∙ rw c.in-Some.is at c.self.view_is)
