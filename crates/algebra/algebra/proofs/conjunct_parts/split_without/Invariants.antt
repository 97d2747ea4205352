use Rattle.std.proofs.Common.{◌≡◌, take}
use Rattle.algebra.specs.ConjunctParts.{part, rest, is_without}
use Rattle.algebra.specs.GivenColumns.{given_columns, given_free}
use Rattle.algebra.proofs.conjunct_parts.split_without.Given as goal

abbrev pub invariant-loop-condition : goal.invariant-loop-condition
invariant-loop-condition l = record {
  part_is : l.part ≡ part (is_without (given_columns l.classes) (given_free l.classes) (given_columns l.classes l.class)) (take l.condition-index l.conditions);
  rest_is : l.rest ≡ rest (is_without (given_columns l.classes) (given_free l.classes) (given_columns l.classes l.class)) (take l.condition-index l.conditions);
}
