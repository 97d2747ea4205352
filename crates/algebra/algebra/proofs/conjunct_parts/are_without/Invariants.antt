use Rattle.std.proofs.Common.{◌≡◌, true, take}
use Rattle.std.specs.List.{list_all}
use Rattle.algebra.specs.ConjunctParts.{is_without}
use Rattle.algebra.specs.GivenColumns.{given_columns, given_free}
use Rattle.algebra.proofs.conjunct_parts.are_without.Given as goal

abbrev pub invariant-loop-condition : goal.invariant-loop-condition
invariant-loop-condition l = list_all (is_without (given_columns l.classes) (given_free l.classes) (given_columns l.classes l.class)) (take l.condition-index l.conditions) ≡ true
