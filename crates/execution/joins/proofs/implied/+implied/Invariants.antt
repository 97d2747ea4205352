use Rattle.std.proofs.Common.{take}
use Rattle.std.specs.List.{list_any}
use Rattle.values.specs.Truth.{is_true}
use Rattle.algebra.specs.Conditions.{truth}
use Rattle.physical.specs.Outputs.{no_classes}
use Rattle.relations.specs.Relations.{env_of}
use Rattle.joins.specs.Keys.{AreEquatedWhere}
use Rattle.joins.proofs.implied.+implied.Given as goal

abbrev pub invariant-all_imply-loop-condition : goal.invariant-all_imply-loop-condition
invariant-all_imply-loop-condition l = AreEquatedWhere (λ r. list_any (λ c. is_true (truth c no_classes r)) (take l.condition-index l.conditions)) l.left l.right (env_of l.env) l.key
