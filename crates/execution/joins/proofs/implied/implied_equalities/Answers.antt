use Rattle.values.specs.Truth.{is_true}
use Rattle.values.proofs.Lists.{all_weaker}
use Rattle.algebra.specs.Conditions.{truth}
use Rattle.physical.specs.Outputs.{no_classes}
use Rattle.relations.specs.Relations.{env_of}
use Rattle.index_access.proofs.Probes.{passes_each}
use Rattle.joins.specs.Joins.{pair_env}
use Rattle.joins.specs.Keys.{AreEquatedWhere, IsEquated}
use Rattle.joins.proofs.implied.implied_equalities.Goals as goal

pub returns-then-not-is_empty : goal.returns-then-not-is_empty
returns-then-not-is_empty c =
    let e = env_of c.args.env.now in
    let left = c.args.left.now in
    let right = c.args.right.now in
    all_weaker (AreEquatedWhere (λ r. is_true (truth c.condition-item.result no_classes r)) left right e) (IsEquated c.args.conditions.now left right e)
    (λ k given i j holding.
    given i j (passes_each (λ d. is_true (truth d no_classes (pair_env left right e i j))) c.args.conditions.now c.loop-condition.condition-index c.condition-item.result c.loop-condition-test.true c.condition-item.is holding))
    c.in_ok-keys.keys.items c.in_ok-keys.ensures
