use Rattle.std.proofs.Common.{◌≡◌, ◌++◌, drop}
use Rattle.certificate.specs.QueryOrders as spec
use Rattle.certificate.proofs.FirstKeys.{unmet}
use Rattle.certificate.proofs.order_by.first_keys.Given as goal

abbrev pub invariant-loop-key : goal.invariant-loop-key
invariant-loop-key l = l.first.items ++ unmet l.first.items (spec.first_keys (drop l.key-index l.keys)) ≡ spec.first_keys l.keys
