use Rattle.std.proofs.Common.{◌≡◌, ◌++◌, take}
use Rattle.std.specs.List.{flat_map}
use Rattle.algebra.specs.Conditions.{named_classes}
use Rattle.algebra.proofs.named_classes.+classes.Given as goal

abbrev pub invariant-add_all_classes-loop-condition : goal.invariant-add_all_classes-loop-condition
invariant-add_all_classes-loop-condition l = l.classes.items ≡ l.fn.classes.items ++ flat_map named_classes (take l.condition-index l.conditions)
