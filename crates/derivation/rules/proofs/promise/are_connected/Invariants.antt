use Rattle.std.proofs.Common.{◌≡◌, false, take}
use Rattle.std.specs.List.{list_any}
use Rattle.rules.specs.Matches.{known_in}
use Rattle.rules.specs.Promises.{connects}
use Rattle.rules.proofs.promise.are_connected.Given as goal

abbrev pub invariant-loop-condition : goal.invariant-loop-condition
invariant-loop-condition l = list_any (connects (known_in l.classes) l.first l.second) (take l.condition-index l.conjuncts) ≡ false
