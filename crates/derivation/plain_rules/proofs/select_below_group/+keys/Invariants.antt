use Rattle.std.proofs.Common.{◌≡◌, true, take}
use Rattle.std.specs.List.{list_all}
use Rattle.algebra.specs.Columns.{has}
use Rattle.algebra.specs.Conditions.{all_columns}
use Rattle.plain_rules.proofs.select_below_group.+keys.Given as goal

abbrev pub invariant-all_name_keys-loop-condition : goal.invariant-all_name_keys-loop-condition
invariant-all_name_keys-loop-condition l = list_all (λ c. all_columns c (has l.keys)) (take l.condition-index l.conditions) ≡ true
