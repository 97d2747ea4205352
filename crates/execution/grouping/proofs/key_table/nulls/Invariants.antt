use Rattle.std.proofs.Common.{◌≡◌, replicate}
use Rattle.values.specs.declared.value.Value.TheVariants.{Null}
use Rattle.relations.specs.MadeColumns.{made_values}
use Rattle.grouping.proofs.key_table.nulls.Given as goal

abbrev pub invariant-loop : goal.invariant-loop
invariant-loop l = made_values l.column ≡ replicate l.counter Null
