use Rattle.std.proofs.Common.{◌≡◌, take}
use Rattle.std.specs.List.{flat_map}
use Rattle.frame.specs.FormedFrames.{group_aggregates}
use Rattle.certificate.proofs.judging.own_aggregates.Given as goal

abbrev pub invariant-loop-expr : goal.invariant-loop-expr
invariant-loop-expr l = l.own.items ≡ flat_map group_aggregates (take l.expr-index l.frame)
