use Rattle.std.proofs.Common.{◌≡◌, ℕ, [], length, reverse, take}
use Rattle.props.specs.Knowledge.{known}
use Rattle.costs.specs.Cardinalities.{equations_at, own_equations, own_rows, rows_at}
use Rattle.costs.proofs.cardinalities.own_rows.Given as goal

abbrev pub invariant-loop-number : goal.invariant-loop-number
invariant-loop-number l =
    record {
      count : length l.rows.items ≡ l.number;
      each : (k : ℕ) → rows_at l.rows.items k ≡ own_rows l.statistics l.instances (known l.classes) (reverse (take l.number l.lines)) k [];
      as_many : length l.equations.items ≡ l.number;
      equal : (k : ℕ) → equations_at l.equations.items k ≡ own_equations (known l.classes).root (reverse (take l.number l.lines)) k;
    }
