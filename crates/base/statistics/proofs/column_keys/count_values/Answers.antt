use Rattle.std.proofs.Common.{ap, sym, ◌∙◌}
use Rattle.statistics.specs.UniqueLists.{is_not_null_at}
use Rattle.statistics.proofs.ColumnValues.{values_counted, all_whole}
use Rattle.statistics.proofs.column_keys.count_values.Goals as goal

pub returns-then-is_not_null : goal.returns-then-is_not_null
returns-then-is_not_null c =
    c.len.ensures ∙ all_whole c.args.entry.now.columns c.args.place c.args.rows.now (ap (λ cs. is_not_null_at cs c.args.place) (sym c.as_slice.ensures) ∙ sym c.is_not_null.ensures ∙ c.if-is_not_null.true) c.requires.fit

pub returns-else-is_not_null : goal.returns-else-is_not_null
returns-else-is_not_null c = rw c.len-else-is_not_null.ensures (values_counted c.args.place c.args.rows.now c.null_rows.result c.null_rows.ensures)
