use Rattle.std.proofs.Common.{length}
use Rattle.store.proofs.CutRecords.{quoteless_before}
use Rattle.store.proofs.cuts.until_quote.Goals as goal

pub returns-in-Some-clause-plain : goal.returns-in-Some-clause-plain
returns-in-Some-clause-plain c = quoteless_before c.args.bytes.now c.in-Some.at c.in-Some.ensures.0.before

pub returns-in-None-clause-plain : goal.returns-in-None-clause-plain
returns-in-None-clause-plain c = quoteless_before c.args.bytes.now (length c.args.bytes.now) c.in-None.ensures
