use Rattle.std.proofs.Common.{arith}
use Rattle.index_access.proofs.FilteredRanges.{filter_none, filter_range}
use Rattle.index_access.proofs.lookup.between.Goals as goal

pub returns-then-start-end : goal.returns-then-start-end
returns-then-start-end c = λ p first last. filter_range p c.args.numbers.now c.args.start c.args.end (omega arith) first last

pub returns-else-start-end : goal.returns-else-start-end
returns-else-start-end c = λ p first last. filter_none p c.args.numbers.now c.args.start c.args.end (omega arith) first last
