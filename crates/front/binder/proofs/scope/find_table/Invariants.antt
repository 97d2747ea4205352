use Rattle.std.proofs.Common.{◌≡◌, drop}
use Rattle.binder.specs.Lookups.{find_table}
use Rattle.binder.proofs.scope.find_table.Given as goal

-- what is found from here on is what is found in all
abbrev pub invariant-loop-place : goal.invariant-loop-place
invariant-loop-place l = find_table l.place (drop l.place l.table-items) l.name ≡ find_table 0 l.table-items l.name
