use Rattle.std.proofs.Common.{subst, Option, arith}
use Rattle.bindings.specs.declared.binding.Binding.{Binding}
use Rattle.closure.specs.Lacking.{BindingTold}
use Rattle.closure.specs.Lines.{HasResultsOf}
use Rattle.closure.proofs.Fits.{results-from, so-far}
use Rattle.closure.proofs.closing.lacking.Goals as goal

pub loop-line-preserved : goal.loop-line-preserved
loop-line-preserved c = so-far (HasResultsOf c.args.log.now.instances c.args.log.now.log) c.loop-line.line c.loop-line.invariant
    (subst (λ (o : Option Binding). BindingTold c.args.log.now.instances c.args.log.now.log (HasResultsOf c.args.log.now.instances c.args.log.now.log c.loop-line.line) o) c.in_default.is c.in_ok-binding.ensures)

pub returns : goal.returns
returns c = results-from c.args.log.now.instances c.args.log.now.log (λ i lt. c.loop-line.invariant i (omega (arith, lt, c.loop-line-test.false, c.in_ok-line-end.ensures, c.len.ensures)))
