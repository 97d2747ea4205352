use Rattle.std.proofs.Common.{◌∙◌, ap, sym, is_some}
use Rattle.binder.specs.Scopes.{is_taken}
use Rattle.binder.specs.Lent.{placed_of, scope_of}
use Rattle.binder.proofs.Indexes.{taken-instance, is_some-map}
use Rattle.binder.proofs.scope.Scope.has.Goals as goal

pub returns : goal.returns
returns c =
    let name = c.args.name.now in
    c.is_some.ensures
    ∙ sym (is_some-map (λ x. x.now) c.get.result)
    ∙ ap is_some c.get.ensures.value
    ∙ sym (is_some-map placed_of _)
    ∙ ap is_some (c.self.invariant.finds_tables name)
    ∙ sym (taken-instance name 0 (scope_of c.self.inside.index.tables.items))
    ∙ ap (is_taken name) c.self.view_is
