use Rattle.std.proofs.Common.{refl}
use Rattle.certificate_read.specs.NodeReading.{kind_name, lists_behind, matching_of}
use Rattle.certificate_read.proofs.NodeLaws.{kind_names}
use Rattle.certificate_read.proofs.Wordings.{named_reads}
use Rattle.certificate_read.proofs.nodes.join.Goals as goal

pub returns : goal.returns
returns c =
    named_reads kind_name lists_behind matching_of kind_names c.args.words.now c.kind_form.new.words c.in_ok-kind.kind c.in_ok-kind.kind refl c.in_ok-kind.ensures c.matching.new.words c.matching.result c.matching.ensures
