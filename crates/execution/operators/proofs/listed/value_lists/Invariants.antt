use Rattle.std.proofs.Common.{◌≡◌, length, take}
use Rattle.relations.specs.ValueLists.{AreListed}
use Rattle.operators.proofs.listed.value_lists.Given as goal

abbrev pub invariant-loop-number : goal.invariant-loop-number
invariant-loop-number l = record {
  listed : AreListed (take l.number l.relations) l.lists.items;
  each : length l.lists.items ≡ l.number;
}
