use Rattle.std.proofs.Common.{ap, sym, refl, ◌∙◌, subst}
use Rattle.logs.specs.Logged.{Logged}
use Rattle.memo.specs.declared.lines.Memo.{Memo}
use Rattle.lean_logs.specs.Growth.{Extends, GrowsLean}
use Rattle.lean_logs.proofs.Growth.{extended_along}
use Rattle.explore.proofs.Along.{grown_at_first, grown_along}
use Rattle.explore.proofs.exploring.apply_and_learn.Goals as goal
use Rattle.explore.proofs.exploring.apply_and_learn.Goals.{else-loop-test, then-loop-test+in_ok-pass_and_learn+then-len-before}

pub loop-init : goal.loop-init
loop-init c = (grown_at_first _ _, refl)

pub loop-preserved : goal.loop-preserved
loop-preserved c = (grown_along _ _ _ _ _ c.loop.invariant.0 c.loop.invariant.1 c.pass_and_learn.ensures.extends c.in_ok-pass_and_learn.ensures.lean, c.pass_and_learn.ensures.limit ∙ c.loop.invariant.1)

pub returns-in_err-pass_and_learn-clause-extends : goal.returns-in_err-pass_and_learn-clause-extends
returns-in_err-pass_and_learn-clause-extends c = extended_along _ _ _ _ c.loop.invariant.0.extends (subst (λ n. Extends n c.loop.memo.log c.pass_and_learn.new.memo.log) c.loop.invariant.1 c.pass_and_learn.ensures.extends)

pub returns-clause-lean : goal.returns-clause-lean
returns-clause-lean c =
    let Lean = λ (m : Memo). GrowsLean c.args.memo.now.limit c.args.memo.now.log m.log in
    elim c.loop-test.branch [
      | else-loop-test w ↦ subst Lean (sym w.memo-is) c.loop.invariant.0.lean
      | then-loop-test+in_ok-pass_and_learn+then-len-before w ↦ subst Lean (sym w.memo-is) (grown_along _ _ _ _ _ c.loop.invariant.0 c.loop.invariant.1 w.pass_and_learn.ensures.extends w.in_ok-pass_and_learn.ensures.lean).lean
    ]
