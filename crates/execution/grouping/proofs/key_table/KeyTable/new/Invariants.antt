use Rattle.std.proofs.Common.{◌≡◌, [], map, replicate}
use Rattle.relations.specs.MadeColumns.{made_values}
use Rattle.grouping.proofs.key_table.KeyTable.new.Given as goal

abbrev pub invariant-loop : goal.invariant-loop
invariant-loop l = map made_values l.columns.items ≡ replicate l.counter []
