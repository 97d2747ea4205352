use Rattle.std.proofs.Common.{◌≡◌, ◌++◌, drop}
use Rattle.explain.specs.Names as spec
use Rattle.explain.proofs.names.push_stored.Given as goal

abbrev pub invariant-loop-table : goal.invariant-loop-table
invariant-loop-table l = (l.text.items ≡ l.fn.text.items ++ l.before) × (spec.stored_text l.tables l.column ≡ spec.stored_text (drop l.table-index l.tables) l.column)
