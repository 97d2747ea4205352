use Rattle.std.proofs.Common.{◌≡◌}
use Rattle.physical.specs.declared.plan.Node.TheVariants.{Implements}
use Rattle.certificate_read.specs.declared.node_forms.NodeForm.TheVariants as node
use Rattle.certificate_read.specs.NodeReading.{operator_behind, operator_of, node_of}
use Rattle.certificate_read.specs.WordReading.{number_wording}
use Rattle.certificate_read.proofs.Wordings.{passes_both}
use Rattle.certificate_read.proofs.nodes.implementation.Goals as goal

pub returns : goal.returns
returns c =
    passes_both number_wording (operator_behind c.args.form) (λ x. c.in_ok-line.line ≡ x) (λ p. (c.in_ok-operator.operator, c.in_ok-operator.inputs) ≡ operator_of c.args.form p) (λ q. record { node = Implements c.in_ok-line.line c.in_ok-operator.operator; inputs = c.in_ok-operator.inputs } ≡ node_of (node.Implements c.args.form) q)
    c.args.words.now c.number.new.self c.operator.new.words (λ x p e f i. record { node = Implements (e i) (f i).0; inputs = (f i).1 }) c.in_ok-line.ensures c.in_ok-operator.ensures
