use Rattle.std.proofs.Common.{◌≡◌, map, take, []}
use Rattle.store.proofs.database.Database.new.Given as goal

abbrev pub invariant-loop-entry : goal.invariant-loop-entry
invariant-loop-entry l = l.tables.items ≡ map (λ t. []) (take l.entry-index l.entry-items)
