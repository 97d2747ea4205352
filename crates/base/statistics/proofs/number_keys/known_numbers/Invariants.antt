use Rattle.std.proofs.Common.{◌≡◌}
use Rattle.statistics.specs.NumberKeys as spec
use Rattle.statistics.proofs.number_keys.known_numbers.Given as goal

abbrev pub invariant-loop-row : goal.invariant-loop-row
invariant-loop-row l = l.known.items ≡ spec.known_numbers l.column l.row
