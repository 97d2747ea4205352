use Rattle.std.proofs.Common.{refl, sym, ◌∙◌, subst}
use Rattle.lean_logs.specs.Growth.{IsServedBut}
use Rattle.lean_logs.proofs.Growth.{extended_along, same_extends}
use Rattle.lean_logs.proofs.Serving.{is_empty, served_at_first, served_ends}
use Rattle.lean_logs.proofs.lean_log.LeanLog.append_served.Goals as goal

pub loop-line-init : goal.loop-line-init
loop-line-init c =
    let a = c.args.self.now in
    (subst (λ ns. IsServedBut ns a a) (sym c.new-waiting.ensures.items) (served_at_first a), same_extends _ _ _ refl)

pub returns-in_err-append_to-clause-extends : goal.returns-in_err-append_to-clause-extends
returns-in_err-append_to-clause-extends c = extended_along _ _ _ _ c.loop-line.invariant.1 c.append_to.ensures.extends

pub returns-then-not-branch-clause-extends : goal.returns-then-not-branch-clause-extends
returns-then-not-branch-clause-extends c = extended_along _ _ _ _ c.loop-line.invariant.1 c.append_to.ensures.extends

pub loop-line-preserved : goal.loop-line-preserved
loop-line-preserved c =
    let a = c.args.self.now in
    (c.in_ok-append_to.ensures.served c.if-not-branch.false a c.loop-line.invariant.0, extended_along _ _ _ _ c.loop-line.invariant.1 c.append_to.ensures.extends)

pub returns-clause-served : goal.returns-clause-served
returns-clause-served c = λ none.
    let a = c.args.self.now in
    let b = c.loop-line.self in
    served_ends a b (subst (λ ns. IsServedBut ns a b) (sym c.as_slice.ensures.value ∙ is_empty c.as_slice.result.now (sym c.is_empty.ensures ∙ none)) c.loop-line.invariant.0)
