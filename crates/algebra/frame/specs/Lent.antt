-- The chain of scopes that is lent, as a list.
use Rattle.std.specs.Prelude.{[], ◌∷◌}
use Rattle.query.specs.Bound.{Scope}
use Rattle.frame.specs.declared.scope.Scope as lent
use Rattle.frame.specs.declared.scope.Scope.{Outermost, Inner'}

-- the column numbers of the rows around a place, the innermost first
abbrev pub scope_of : lent.Scope → Scope
scope_of Outermost = []
scope_of (Inner' numbers _ outer) = numbers.now ∷ scope_of outer
