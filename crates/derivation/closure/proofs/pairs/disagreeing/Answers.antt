use Rattle.std.proofs.Common.{arith}
use Rattle.derivation.proofs.Lookups.{member-within}
use Rattle.closure.proofs.pairs.disagreeing.Goals as goal

pub returns : goal.returns
returns c = λ i k there. c.loop-line.invariant i (omega (arith, member-within c.args.log.now.log i k there, c.loop-line-test.false, c.in_ok-line-end.ensures, c.len.ensures)) k there
