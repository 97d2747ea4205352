use Rattle.grouping.proofs.key_table.KeyTable.number_of.Given as goal

abbrev pub ghost-found : goal.ghost-found
ghost-found g a = g.keys

abbrev pub ghost-push : goal.ghost-push
ghost-push g a = g.keys
