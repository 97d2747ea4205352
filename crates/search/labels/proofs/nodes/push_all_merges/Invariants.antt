use Rattle.std.proofs.Common.{take}
use Rattle.std.specs.List.{list_all}
use Rattle.algebra.specs.Equated.{equated}
use Rattle.labels.specs.Candidates.{merges_hold}
use Rattle.labels.specs.Nodes.{Adds, holds_if_fit}
use Rattle.labels.proofs.nodes.push_all_merges.Given as goal

abbrev pub invariant-loop-condition : goal.invariant-loop-condition
invariant-loop-condition l = Adds l.fn.nodes.items l.nodes.items (λ p. list_all (λ c. merges_hold (holds_if_fit l.of p) l.matching (equated c)) (take l.condition-index l.conditions))
