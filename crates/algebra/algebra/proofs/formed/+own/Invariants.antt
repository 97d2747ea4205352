use Rattle.std.proofs.Common.{◌≡◌, true, take}
use Rattle.algebra.specs.Expressions.{names_own}
use Rattle.algebra.proofs.formed.+own.Given as goal

abbrev pub invariant-all_name_own-loop-condition : goal.invariant-all_name_own-loop-condition
invariant-all_name_own-loop-condition l = names_own l.instances l.own (take l.condition-index l.conditions) ≡ true
