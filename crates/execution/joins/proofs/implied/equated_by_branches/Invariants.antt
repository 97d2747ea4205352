use Rattle.std.specs.List.{AllByRecursion}
use Rattle.values.specs.Truth.{is_true}
use Rattle.algebra.specs.Conditions.{truth}
use Rattle.physical.specs.Outputs.{no_classes}
use Rattle.relations.specs.Relations.{env_of}
use Rattle.joins.specs.Keys.{AreEquatedWhere}
use Rattle.joins.proofs.implied.equated_by_branches.Given as goal

abbrev pub invariant-loop-key : goal.invariant-loop-key
invariant-loop-key l = AllByRecursion (AreEquatedWhere (λ r. is_true (truth l.condition no_classes r)) l.left l.right (env_of l.env)) l.keys.items
