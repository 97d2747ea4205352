use Rattle.std.proofs.Common.{ap, ◌∙◌, map}
use Rattle.props.specs.Keys.{with_key, in_order}
use Rattle.props.proofs.KeySets.{inserted, same-items}
use Rattle.props.proofs.keys.insert.Goals as goal

pub returns-in_ok-insert-in-Some-clause-added : goal.returns-in_ok-insert-in-Some-clause-added
returns-in_ok-insert-in-Some-clause-added c =
    ap (λ keys. in_order (map (λ own. own.items) keys)) c.in_ok-insert-in-Some.ensures.keys
    ∙ inserted (λ own. own.items) _ (λ x y. same-items x.items y.items) c.deref_mut.result.now.keys c.args.key
    ∙ rw c.in-Some.is (ap (λ keys. with_key (in_order (map (λ own. own.items) keys.keys)) c.args.key.items) c.deref_mut.ensures.value)
