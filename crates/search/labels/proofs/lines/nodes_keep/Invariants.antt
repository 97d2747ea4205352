use Rattle.std.proofs.Common.{◌≡◌, drop, map}
use Rattle.std.specs.List.{list_all}
use Rattle.labels.specs.Bounding.{keeps}
use Rattle.labels.proofs.lines.nodes_keep.Given as goal

abbrev pub invariant-loop-node : goal.invariant-loop-node
invariant-loop-node l = list_all (λ node. list_all (λ k. keeps l.by k node) (map (λ k. k.now) l.labels)) (drop l.node-index l.nodes) ≡ list_all (λ node. list_all (λ k. keeps l.by k node) (map (λ k. k.now) l.labels)) l.nodes
