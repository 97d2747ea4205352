use Rattle.std.proofs.Common.{◌≡◌, drop}
use Rattle.binder.specs.Lookups.{find_column}
use Rattle.binder.proofs.scope.find_column.Given as goal

-- what is found from here on is what is found in all
abbrev pub invariant-loop-place : goal.invariant-loop-place
invariant-loop-place l = find_column l.place (drop l.place l.columns) l.name ≡ find_column 0 l.columns l.name
