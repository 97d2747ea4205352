use Rattle.std.proofs.Common.{◌≡◌, true, take}
use Rattle.algebra.specs.Columns.{has}
use Rattle.algebra.specs.Conditions.{holds}
use Rattle.algebra.specs.GivenColumns.{given_columns}
use Rattle.physical.specs.Outputs.{no_classes}
use Rattle.joins.specs.SideParts.{AddsAll, AddsAny, some_true}
use Rattle.joins.proofs.side_parts.+side_parts.Given as goal

abbrev pub invariant-add_parts-loop-condition : goal.invariant-add_parts-loop-condition
invariant-add_parts-loop-condition l =
    record {
      all : AddsAll (has (given_columns l.other 0)) (holds no_classes l.fn.parts) (holds no_classes (take l.condition-index l.conditions)) (holds no_classes l.parts);
      any : l.whole ≡ true → AddsAny (has (given_columns l.other 0)) (some_true l.fn.parts) (some_true (take l.condition-index l.conditions)) (some_true l.parts);
    }
