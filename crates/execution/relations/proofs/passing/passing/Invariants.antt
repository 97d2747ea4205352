use Rattle.std.proofs.Common.{◌≡◌, ◌≤◌, ◌-◌, filter}
use Rattle.std.specs.List.{range_with_len}
use Rattle.relations.specs.Resolved.{all_pass, inner_row}
use Rattle.relations.proofs.passing.passing.Given as goal

abbrev pub decreases-loop-start : goal.decreases-loop-start
decreases-loop-start l = l.count - l.start

abbrev pub invariant-loop-start : goal.invariant-loop-start
invariant-loop-start l = record {
  within : l.start ≤ l.count;
  kept : l.kept.items ≡ filter (all_pass l.right (inner_row l.beside) l.tests) (range_with_len 0 l.start);
}
