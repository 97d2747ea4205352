use Rattle.std.proofs.Common.{◌≡◌, ◌-◌, flat_map, map}
use Rattle.std.specs.List.{range_with_len}
use Rattle.algebra.specs.Bags.{nulls}
use Rattle.joins.specs.Joins.{partners_of}
use Rattle.relations.specs.Relations.{numbered_env}
use Rattle.joins.proofs.chunking.fill_chunk.Given as goal

abbrev pub invariant-loop-number : goal.invariant-loop-number
invariant-loop-number l = record {
  left : l.pairs.left.items ≡ flat_map (λ i. map (λ j. i) (partners_of l.unmatched l.on.tested.conditions.now l.right (numbered_env l.left nulls i))) (range_with_len l.start (l.number - l.start));
  right : l.pairs.right.items ≡ flat_map (λ i. partners_of l.unmatched l.on.tested.conditions.now l.right (numbered_env l.left nulls i)) (range_with_len l.start (l.number - l.start));
}
