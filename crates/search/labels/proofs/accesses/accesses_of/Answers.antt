use Rattle.std.proofs.Common.{arith}
use Rattle.labels.proofs.Indexed.{all-below}
use Rattle.labels.proofs.accesses.accesses_of.Goals as goal

pub returns : goal.returns
returns c =
    let L = c.args.log.now in
    all-below L.instances L.log c.loop-line.line c.loop-line.found.items (omega (arith, c.loop-line-test.false, c.in_ok-line-end.ensures, c.len.ensures)) c.loop-line.invariant
