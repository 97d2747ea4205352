use Rattle.statistics.proofs.ColumnValues.{are_short}
use Rattle.statistics.proofs.column_keys.keys_of.Goals as goal

pub estimated_keys-requires-clause-short : goal.estimated_keys-requires-clause-short
estimated_keys-requires-clause-short c = are_short c.args.entry.now c.args.rows.now c.args.place c.requires
