use Rattle.std.proofs.Common.{subst, Option, None, arith}
use Rattle.derivation.proofs.Lookups.{member-within}
use Rattle.closure.specs.declared.lacks.Missing.{Missing}
use Rattle.closure.specs.Lacking.{UnlearntAt}
use Rattle.closure.proofs.Fits.{so-far}
use Rattle.closure.proofs.closing.unlearnt.Goals as goal

pub loop-line-preserved : goal.loop-line-preserved
loop-line-preserved c = so-far (λ i. UnlearntAt c.args.log.now.instances c.args.log.now.log i None) c.loop-line.line c.loop-line.invariant
    (subst (λ (o : Option Missing). UnlearntAt c.args.log.now.instances c.args.log.now.log c.loop-line.line o) c.in_default.is c.in_ok-missing.ensures)

pub returns : goal.returns
returns c = λ i l there f rises. c.loop-line.invariant i (omega (arith, member-within c.args.log.now.log i l there, c.loop-line-test.false, c.in_ok-line-end.ensures, c.len.ensures)) l there f rises
