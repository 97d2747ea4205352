use Rattle.std.proofs.Common.{subst, Option}
use Rattle.rules.specs.Patterns.{picked_subquery}
use Rattle.bindings.specs.declared.binding.Binding.{Binding}
use Rattle.closure.specs.Lacking.{BindingTold}
use Rattle.closure.specs.Lines.{HasPairs}
use Rattle.closure.proofs.Fits.{so-far}
use Rattle.closure.proofs.closing.lacking_pick_over.Goals as goal

pub loop-pick-preserved : goal.loop-pick-preserved
loop-pick-preserved c =
    let Has = HasPairs c.args.log.now.instances c.args.log.now.log c.args.rule c.loop-pick.pick c.args.top in
    so-far (λ pick. HasPairs c.args.log.now.instances c.args.log.now.log c.args.rule pick c.args.top (picked_subquery c.args.expr.now pick)) c.loop-pick.pick c.loop-pick.invariant
    (subst Has c.picked_subquery-class.ensures
    (subst (λ (o : Option Binding). BindingTold c.args.log.now.instances c.args.log.now.log (Has c.picked_subquery-class.result) o) c.in_default.is c.in_ok-binding.ensures))
