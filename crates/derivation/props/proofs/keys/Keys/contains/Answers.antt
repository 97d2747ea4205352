use Rattle.std.proofs.Common.{ap, ◌∙◌}
use Rattle.std.specs.List.{list_any}
use Rattle.algebra.specs.Equality.{same_columns}
use Rattle.props.specs.Keys.{has_key}
use Rattle.props.proofs.KeySets.{any-came, same-items}
use Rattle.props.proofs.keys.Keys.contains.Goals as goal

pub returns-in-Some : goal.returns-in-Some
returns-in-Some c =
    rw c.deref.ensures at c.contains.ensures ∙ ap (λ p. list_any p c.in-Some.keys.value.keys) (λ i key. same-items c.args.key.now key.items i)
    ∙ any-came (λ key. key.items) _ (λ x y. same-items x.items y.items) (λ l. same_columns l c.args.key.now) c.in-Some.keys.value.keys
    ∙ ap (λ keys. has_key keys c.args.key.now) (rw c.in-Some.is at c.self.view_is)
