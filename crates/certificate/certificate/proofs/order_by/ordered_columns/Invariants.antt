use Rattle.std.proofs.Common.{◌≡◌, ◌++◌, drop}
use Rattle.certificate.specs.QueryOrders as spec
use Rattle.certificate.proofs.order_by.ordered_columns.Given as goal

abbrev pub invariant-loop-key : goal.invariant-loop-key
invariant-loop-key l = l.order.items ++ spec.ordered_columns l.numbers (drop l.key-index l.keys) ≡ spec.ordered_columns l.numbers l.keys
