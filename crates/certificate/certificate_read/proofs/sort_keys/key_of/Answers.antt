use Rattle.certificate_read.proofs.KeyTexts.{column_past}
use Rattle.certificate_read.proofs.sort_keys.key_of.Goals as goal

pub returns-in-None : goal.returns-in-None
returns-in-None c = column_past c.args.column.now c.args.descending c.in_ok-column.field-0 c.in_ok-column.ensures c.in-None.is
