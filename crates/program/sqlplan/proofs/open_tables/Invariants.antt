use Rattle.std.proofs.Common.{◌≡◌, vec_len}
use Rattle.sqlplan.proofs.open_tables.Given as goal

abbrev pub invariant-loop-table : goal.invariant-loop-table
invariant-loop-table l = vec_len l.tables ≡ l.table-index
