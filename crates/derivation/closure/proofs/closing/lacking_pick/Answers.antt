use Rattle.std.proofs.Common.{◌≡◌, sym, ◌∙◌, true, [], ◌∷◌}
use Rattle.closure.specs.Lines.{has_result}
use Rattle.closure.proofs.Fits.{so-far}
use Rattle.closure.proofs.closing.lacking_pick.Goals as goal

pub loop-pick-preserved : goal.loop-pick-preserved
loop-pick-preserved c = so-far (λ pick. has_result c.args.log.now.instances c.args.log.now.log c.args.rule pick (c.args.top ∷ []) ≡ true) c.loop-pick.pick c.loop-pick.invariant
    (sym c.in_ok-has_result.ensures ∙ c.if-not-branch.false)
