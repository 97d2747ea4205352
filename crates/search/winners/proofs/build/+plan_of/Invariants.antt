use Rattle.std.proofs.Common.{List, take}
use Rattle.std.specs.List.{AllZip}
use Rattle.derivation.specs.Logs.{Log}
use Rattle.labels.specs.declared.goal.Goal.{Goal}
use Rattle.winners.specs.Offered.{AreOffered, IsPlanFor}
use Rattle.winners.proofs.build.«+plan_of».Given as goal

abbrev pub decreases-plan_of : goal.decreases-plan_of
decreases-plan_of l = l.number

abbrev pub invariant-loop-input : goal.invariant-loop-input
invariant-loop-input l = (E : Log) (goals : List Goal) → AreOffered l.space E goals → AllZip (IsPlanFor l.space E goals l.found) (take l.input-index l.input-items) l.inputs
