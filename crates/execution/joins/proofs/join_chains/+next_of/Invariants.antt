use Rattle.std.proofs.Common.{◌≡◌, ◌<◌, ℕ, length, map, slice_get}
use Rattle.joins.specs.JoinChains.{come_of}
use Rattle.joins.specs.JoinStages.{joining_of}
use Rattle.joins.proofs.JoinChains.{lefts_of}
use Rattle.joins.proofs.join_chains.+next_of.Given as goal

abbrev pub decreases-next_of : goal.decreases-next_of
decreases-next_of a = a.number

abbrev pub decreases-loop-chunk : goal.decreases-loop-chunk
decreases-loop-chunk l = length (lefts_of l.stages.items l.number)

abbrev pub invariant-loop-chunk : goal.invariant-loop-chunk
invariant-loop-chunk l = record {
  same : map joining_of l.stages.items ≡ map joining_of l.fn.stages.items;
  rows : come_of l.stages.items l.number ≡ come_of l.fn.stages.items l.number;
  above : (i : ℕ) → l.number < i → slice_get l.stages.items i ≡ slice_get l.fn.stages.items i;
}
