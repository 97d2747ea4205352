use Rattle.std.proofs.Common.{◌≡◌, true, take}
use Rattle.algebra.specs.Columns.{has}
use Rattle.subquery_rules.specs.Replacing.{all_ask}
use Rattle.subquery_rules.proofs.replacing.+asks.Given as goal

abbrev pub invariant-all_ask_for-loop-condition : goal.invariant-all_ask_for-loop-condition
invariant-all_ask_for-loop-condition l = all_ask l.class (take l.condition-index l.conditions) (has l.columns) ≡ true
