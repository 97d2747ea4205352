use Rattle.std.proofs.Common.{ap, sym, ◌∙◌}
use Rattle.props.specs.Keys.{with_key, has_key, came}
use Rattle.props.proofs.KeySets.{known-already}
use Rattle.props.proofs.keys.Keys.insert.Goals as goal

pub returns-then-contains-clause-added : goal.returns-then-contains-clause-added
returns-then-contains-clause-added c =
    let key = c.args.key.now in
    let there = ap (λ keys. has_key keys key) c.self.view_is ∙ sym c.contains.ensures ∙ c.if-contains.true in
    sym c.self.view_is ∙ sym (known-already (came c.self.inside.table) key there) ∙ ap (λ keys. with_key keys key) c.self.view_is
