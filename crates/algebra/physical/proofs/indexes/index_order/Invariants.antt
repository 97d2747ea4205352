use Rattle.std.proofs.Common.{◌≡◌, ◌++◌, drop}
use Rattle.physical.specs.Indexes as spec
use Rattle.physical.proofs.indexes.index_order.Given as goal

abbrev pub invariant-loop-column : goal.invariant-loop-column
invariant-loop-column l = l.order.items ++ spec.rising_keys (drop l.column-index l.column-items) ≡ spec.rising_keys l.column-items
