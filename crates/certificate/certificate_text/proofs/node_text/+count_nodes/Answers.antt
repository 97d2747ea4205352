use Rattle.std.proofs.Common.{ap, ◌∙◌, ◌+◌, map, sum}
use Rattle.std.proofs.lemmas.List.{take_all}
use Rattle.certificate_text.specs.CertificateText as spec
use Rattle.certificate_text.proofs.PlanTexts.{count_at}
use Rattle.certificate_text.proofs.node_text.+count_nodes.Goals as goal

pub returns : goal.returns
returns t c =
    let inputs = c.as_slice-input-items.result.now in
    c.loop-input.invariant
    ∙ ap (λ xs. 1 + sum (map spec.node_count xs)) (take_all c.loop-input.input-index inputs c.loop-input-test.false)
    ∙ count_at c.args.plan.now inputs c.as_slice-input-items.ensures
