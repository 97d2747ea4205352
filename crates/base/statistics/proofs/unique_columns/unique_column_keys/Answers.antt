use Rattle.std.proofs.Common.{◌≡◌, ◌+◌, ◌-◌, refl, min, length}
use Rattle.statistics.proofs.UniqueColumns.{counted_by_nulls}
use Rattle.statistics.proofs.unique_columns.unique_column_keys.Goals as goal

pub returns : goal.returns
returns c =
    let by : c.len.result - c.null_rows-nulls.result + c.min.result ≡ length c.args.rows.now - c.null_rows-nulls.result + min c.null_rows-nulls.result 1 = rw (c.len.ensures, c.min.ensures) refl in
    counted_by_nulls c.args.place c.args.rows.now c.null_rows-nulls.result _ c.requires c.null_rows-nulls.ensures by
