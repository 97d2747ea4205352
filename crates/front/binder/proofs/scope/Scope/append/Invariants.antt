use Rattle.std.proofs.Common.{◌≡◌, ◌++◌, take, map}
use Rattle.binder.specs.Lent.{known_of}
use Rattle.binder.proofs.scope.Scope.append.Given as goal

abbrev pub invariant-loop-table : goal.invariant-loop-table
invariant-loop-table l = l.all ≡ l.fn.self ++ map known_of (take l.table-index l.table-items)
