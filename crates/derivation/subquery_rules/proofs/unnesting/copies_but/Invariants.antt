use Rattle.std.proofs.Common.{◌≡◌, take}
use Rattle.subquery_rules.specs.Unnesting.{all_but}
use Rattle.subquery_rules.proofs.unnesting.copies_but.Given as goal

abbrev pub invariant-loop-condition : goal.invariant-loop-condition
invariant-loop-condition l = l.copies.items ≡ all_but l.picked (take l.condition-index l.conditions)
