use Rattle.std.proofs.Common.{◌≡◌, true, take}
use Rattle.operators.specs.Existence.{ask_existence}
use Rattle.operators.proofs.listed.+asked.Given as goal

abbrev pub invariant-column_asked_by_some-loop-condition : goal.invariant-column_asked_by_some-loop-condition
invariant-column_asked_by_some-loop-condition l = ask_existence (take l.condition-index l.conditions) l.class ≡ true
