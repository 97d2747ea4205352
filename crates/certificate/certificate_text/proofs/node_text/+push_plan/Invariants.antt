use Rattle.std.proofs.Common.{◌≡◌, ◌++◌, flat_map, length, take}
use Rattle.std.specs.List.{AllByRecursion}
use Rattle.certificate.specs.NodeInputs.{nodes_of}
use Rattle.certificate_text.specs.CertificateText as spec
use Rattle.certificate_text.specs.Readable.{CanBeRead}
use Rattle.certificate_text.proofs.node_text.+push_plan.Given as goal
use Rattle.physical.specs.declared.plan.Plan.{out-Plan}

abbrev pub invariant-loop-input : goal.invariant-loop-input
invariant-loop-input l =
    (l.text.items ≡ l.fn.text.items ++ (spec.node_text (out-Plan l.plan).node (length l.inputs) ++ flat_map spec.plan_text (take l.input-index l.inputs)))
    × AllByRecursion (λ p. AllByRecursion (λ n. CanBeRead n.0 n.1) (nodes_of p)) (take l.input-index l.inputs)
