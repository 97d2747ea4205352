use Rattle.std.proofs.Common.{◌∙◌, ap, subst, Ok}
use Rattle.certificate_text.proofs.NumberLists.{texts}
use Rattle.certificate_read.specs.NodeReading.{node_wording, node_of}
use Rattle.certificate_read.specs.Wordings.{ReadsLine, deep}
use Rattle.certificate_read.proofs.NodeLaws.{node_told}
use Rattle.certificate_read.proofs.Wordings.{line_refused, line_given, end_refused}
use Rattle.certificate_read.proofs.nodes.node.Goals as goal

pub returns-in_err-read : goal.returns-in_err-read
returns-in_err-read c =
    subst (λ ws. ReadsLine (deep c.args.is_within node_wording) (λ x. node_of x.0 x.1) ws c.from_residual-in_err-read.result) (c.of-words.ensures.left ∙ ap texts c.as_slice.ensures.value ∙ c.in_ok-parts.ensures)
    (line_refused node_wording c.args.is_within (λ x. node_of x.0 x.1) c.of-words.result c.of-words.ensures.in_range c.from_residual-in_err-read.result c.in_err-read.field-0.0 c.from_residual-in_err-read.ensures.1 c.in_err-read.ensures)

pub returns-in_err-end : goal.returns-in_err-end
returns-in_err-end c =
    subst (λ ws. ReadsLine (deep c.args.is_within node_wording) (λ x. node_of x.0 x.1) ws c.from_residual-in_err-end.result) (c.of-words.ensures.left ∙ ap texts c.as_slice.ensures.value ∙ c.in_ok-parts.ensures)
    (end_refused node_wording c.args.is_within (λ x. node_of x.0 x.1) c.of-words.result c.of-words.ensures.in_range node_told c.node_of.new.words c.in_ok-read.read c.in_ok-read.ensures c.from_residual-in_err-end.result c.in_err-end.field-0.0 c.from_residual-in_err-end.ensures.1 c.in_err-end.ensures)

pub returns : goal.returns
returns c =
    subst (λ ws. ReadsLine (deep c.args.is_within node_wording) (λ x. node_of x.0 x.1) ws (Ok c.in_ok-read.read)) (c.of-words.ensures.left ∙ ap texts c.as_slice.ensures.value ∙ c.in_ok-parts.ensures)
    (line_given node_wording c.args.is_within (λ x. node_of x.0 x.1) c.of-words.result c.of-words.ensures.in_range node_told c.node_of.new.words c.in_ok-read.read c.in_ok-read.ensures c.in_ok-end.ensures)
