use Rattle.std.proofs.Common.{ap, sym, subst, ◌∙◌, ◌++◌, ◌∷◌, ℕ, List, flat_map, length}
use Rattle.std.specs.List.{AllByRecursion}
use Rattle.std.proofs.lemmas.List.{take_all}
use Rattle.physical.specs.declared.plan.Node.{Node}
use Rattle.physical.specs.declared.plan.Plan.{Plan, out-Plan}
use Rattle.certificate.specs.NodeInputs.{nodes_of}
use Rattle.certificate.proofs.NodeInputs.{list_at}
use Rattle.certificate_text.specs.CertificateText as spec
use Rattle.certificate_text.specs.Readable.{CanBeRead}
use Rattle.certificate_text.proofs.PlanTexts.{all_inputs, text_at}
use Rattle.certificate_text.proofs.node_text.+push_plan.Goals as goal

pub returns-clause-text : goal.returns-clause-text
returns-clause-text t c =
    let inputs = c.as_slice-inputs.result.now in
    let node = (out-Plan c.args.plan.now).node in
    let before = c.args.text.now.items in
    c.loop-input.invariant.0
    ∙ ap (λ xs. before ++ (spec.node_text node (length inputs) ++ flat_map spec.plan_text xs)) (take_all c.loop-input.input-index inputs c.loop-input-test.false)
    ∙ ap (λ text. before ++ text) (text_at c.args.plan.now inputs c.as_slice-inputs.ensures)

pub returns-clause-readable : goal.returns-clause-readable
returns-clause-readable t c =
    let P : Node × ℕ → Type 0 = λ n. CanBeRead n.0 n.1 in
    let inputs = c.as_slice-inputs.result.now in
    let node = (out-Plan c.args.plan.now).node in
    let each = subst (AllByRecursion (λ p. AllByRecursion P (nodes_of p))) (take_all c.loop-input.input-index inputs c.loop-input-test.false) c.loop-input.invariant.1 in
    let below = all_inputs P nodes_of inputs each in
    let own : CanBeRead node (length inputs) = c.in_ok-push_node.ensures.readable in
    subst (AllByRecursion P) (sym (list_at c.args.plan.now)) (subst (λ xs. AllByRecursion P ((node, length xs) ∷ flat_map nodes_of xs)) c.as_slice-inputs.ensures (own, below))
