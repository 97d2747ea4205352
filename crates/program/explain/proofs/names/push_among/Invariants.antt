use Rattle.std.proofs.Common.{◌≡◌, drop}
use Rattle.explain.specs.Names as spec
use Rattle.explain.proofs.names.push_among.Given as goal

abbrev pub invariant-loop-own : goal.invariant-loop-own
invariant-loop-own l = (l.text.items ≡ l.fn.text.items) × (spec.column_among l.tables l.aggregates l.column ≡ spec.column_among l.tables (drop l.own-index l.aggregates) l.column)
