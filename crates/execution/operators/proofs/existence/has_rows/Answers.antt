use Rattle.std.proofs.Common.{sym}
use Rattle.operators.proofs.SomeRows.{some-counted}
use Rattle.operators.proofs.existence.has_rows.Goals as goal

pub returns : goal.returns
returns c = λ e. sym (some-counted c.args.relation.now e)
