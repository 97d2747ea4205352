use Rattle.std.proofs.Common.{◌≡◌, ◌+◌, map, sum, take}
use Rattle.certificate_text.specs.CertificateText as spec
use Rattle.certificate_text.proofs.node_text.+count_nodes.Given as goal

abbrev pub invariant-loop-input : goal.invariant-loop-input
invariant-loop-input l = l.count ≡ 1 + sum (map spec.node_count (take l.input-index l.input-items))
