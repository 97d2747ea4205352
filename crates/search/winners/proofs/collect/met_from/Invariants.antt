use Rattle.std.proofs.Common.{◌≡◌, ◌≤◌, ◌-◌, ◌^◌, Some, length, slice_get}
use Rattle.algebra.specs.Columns.{columns_at}
use Rattle.winners.specs.Collected.{AreMet}
use Rattle.winners.proofs.collect.met_from.Given as goal

abbrev pub invariant-loop-next : goal.invariant-loop-next
invariant-loop-next l = record {
  met : AreMet l.derived.log.now.instances l.derived.log.now.log (columns_at l.derived.columns.now) l.goals l.nodes l.offers.items l.next;
  root_is : slice_get l.goals.list.items l.root ≡ Some l.fn.root;
  within : l.next ≤ length l.goals.list.items;
}

abbrev pub decreases-loop-next : goal.decreases-loop-next
decreases-loop-next l = 2 ^ 64 - l.next
