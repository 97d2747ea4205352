use Rattle.grouping.proofs.totals.with_rows.Given as goal

abbrev pub ghost-with_values : goal.ghost-with_values
ghost-with_values g a = g.seen
