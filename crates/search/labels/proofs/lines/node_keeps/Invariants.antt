use Rattle.std.proofs.Common.{◌≡◌, drop, map}
use Rattle.std.specs.List.{list_all}
use Rattle.labels.specs.Bounding.{keeps}
use Rattle.labels.proofs.lines.node_keeps.Given as goal

abbrev pub invariant-loop-label : goal.invariant-loop-label
invariant-loop-label l = list_all (λ k. keeps l.by k l.node) (map (λ k. k.now) (drop l.label-index l.labels)) ≡ list_all (λ k. keeps l.by k l.node) (map (λ k. k.now) l.labels)
