use Rattle.std.proofs.Common.{◌≡◌, take, flat_map}
use Rattle.std.specs.List.{enumerate_from}
use Rattle.statistics_text.specs.Columns.{table_columns}
use Rattle.statistics_text.proofs.columns.every_column.Given as goal

-- the tables so far
abbrev pub invariant-loop-number : goal.invariant-loop-number
invariant-loop-number l = l.columns.items ≡ flat_map (λ t. table_columns t.0 t.1) (take l.number (enumerate_from 0 l.table-items))
