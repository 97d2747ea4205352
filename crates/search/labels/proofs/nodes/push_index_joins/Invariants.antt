use Rattle.std.proofs.Common.{◌||◌, not, take}
use Rattle.std.specs.List.{list_all}
use Rattle.physical.specs.declared.plan.Operator.TheVariants.{IndexJoin}
use Rattle.certificate.specs.Replay.{accesses}
use Rattle.labels.specs.Nodes.{Adds, holds_if_fit}
use Rattle.labels.proofs.nodes.push_index_joins.Given as goal

abbrev pub invariant-loop-access : goal.invariant-loop-access
invariant-loop-access l = Adds l.fn.nodes.items l.nodes.items (λ p. list_all (λ a. not (accesses l.of.derived.log.now.log a l.right) || holds_if_fit l.of p (IndexJoin a l.matching)) (take l.access-index l.of.accesses.now))
