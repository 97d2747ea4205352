-- The chain of scopes that is lent, as a list.
use Rattle.std.specs.Prelude.{[], ◌∷◌}
use Rattle.binder.specs.declared.scope.Scopes as lent
use Rattle.binder.specs.declared.scope.Scopes.{Outermost, Inner'}
use Rattle.binder.specs.Scopes.{Scopes}

-- the scopes around a place, the innermost first
abbrev pub scopes_of : lent.Scopes → Scopes
scopes_of Outermost = []
scopes_of (Inner' scope _ outer) = scope.now ∷ scopes_of outer
