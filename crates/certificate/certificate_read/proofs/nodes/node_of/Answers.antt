use Rattle.certificate_read.specs.declared.node_forms.NodeForm.TheVariants as node
use Rattle.certificate_read.specs.NodeReading.{node_name, node_behind, node_of}
use Rattle.certificate_read.proofs.NodeLaws.{node_names}
use Rattle.certificate_read.proofs.Wordings.{named_reads}
use Rattle.certificate_read.proofs.nodes.node_of.Goals as goal

pub returns-in-Sort : goal.returns-in-Sort
returns-in-Sort c =
    named_reads node_name node_behind node_of node_names c.args.words.now c.node_form.new.words c.in_ok-node_form.field-0 node.Sort c.in-Sort.is c.in_ok-node_form.ensures c.sort.new.words c.sort.result c.sort.ensures

pub returns-in-Implements : goal.returns-in-Implements
returns-in-Implements c =
    named_reads node_name node_behind node_of node_names c.args.words.now c.node_form.new.words c.in_ok-node_form.field-0 (node.Implements c.in-Implements.form) c.in-Implements.is c.in_ok-node_form.ensures c.implementation.new.words c.implementation.result c.implementation.ensures
