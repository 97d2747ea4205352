use Rattle.std.proofs.Common.{◌≡◌, ◌-◌, drop}
use Rattle.certificate_text.specs.Limits.{checked, nodes_within}
use Rattle.certificate_text.proofs.LimitLists.{inputs_checked}
use Rattle.certificate_text.proofs.limits.+check_nodes.Given as goal

abbrev pub invariant-loop-input : goal.invariant-loop-input
invariant-loop-input l = checked l.first (nodes_within l.plan l.room) ≡ inputs_checked (l.room - 1) (drop l.input-index l.inputs) l.next
