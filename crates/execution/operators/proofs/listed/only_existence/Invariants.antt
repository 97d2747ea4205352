use Rattle.std.proofs.Common.{◌≡◌, map, take}
use Rattle.operators.specs.Existence.{ask_existence}
use Rattle.operators.proofs.listed.only_existence.Given as goal

abbrev pub invariant-loop-class : goal.invariant-loop-class
invariant-loop-class l = l.only.items ≡ map (ask_existence l.conditions) (take l.class-index l.classes)
