use Rattle.std.proofs.Common.{◌≡◌, ap, sym, ◌∙◌, subst, length}
use Rattle.std.specs.Option.{IfSome}
use Rattle.algebra.specs.Columns.{has}
use Rattle.lean_logs.specs.Founding.{IsAdded}
use Rattle.lean_logs.specs.Growth.{IsServedBut}
use Rattle.lean_logs.proofs.Founding.{extends_of}
use Rattle.lean_logs.proofs.Serving.{served_founded, served_still}
use Rattle.lean_logs.proofs.lean_log.LeanLog.append_to.Goals as goal

pub returns-in_err-push-clause-extends : goal.returns-in_err-push-clause-extends
returns-in_err-push-clause-extends c = extends_of _ _ _ c.args.line c.append.result c.append.ensures.some c.append.ensures.none c.append.ensures.err

pub returns-in_ok-push-clause-extends : goal.returns-in_ok-push-clause-extends
returns-in_ok-push-clause-extends c = extends_of _ _ _ c.args.line c.append.result c.append.ensures.some c.append.ensures.none c.append.ensures.err

pub returns-else-founds-clause-extends : goal.returns-else-founds-clause-extends
returns-else-founds-clause-extends c = extends_of _ _ _ c.args.line c.append.result c.append.ensures.some c.append.ensures.none c.append.ensures.err

pub returns-in_ok-push-clause-served : goal.returns-in_ok-push-clause-served
returns-in_ok-push-clause-served c = λ _ log is.
    let a = c.args.self.now in
    let b = c.append.new.self in
    let added = subst (λ o. IfSome o (λ number. IsAdded c.args.limit a c.args.line b × (number ≡ length a.log))) c.in-Some.is c.in_ok-number.ensures.some in
    subst (λ ns. IsServedBut ns log b) (sym c.in_ok-push.ensures.items)
    (served_founded c.args.limit log a b c.args.line c.args.waiting.now.items c.in_ok-waiting.field-0.items is added.0
    (λ n in_ unnamed. c.in_ok-waiting.ensures n (ap (λ ns. has ns n) c.as_slice.ensures.value ∙ in_) unnamed) c.in-Some.number (sym c.founds_something-founds.ensures ∙ c.if-founds.true) added.1)

pub returns-else-founds-clause-served : goal.returns-else-founds-clause-served
returns-else-founds-clause-served c = λ _ log is.
    let a = c.args.self.now in
    let b = c.append.new.self in
    let added = subst (λ o. IfSome o (λ number. IsAdded c.args.limit a c.args.line b × (number ≡ length a.log))) c.in-Some.is c.in_ok-number.ensures.some in
    served_still c.args.limit log a b c.args.line c.args.waiting.now.items c.in_ok-waiting.field-0.items is added.0
    (λ n in_ unnamed. c.in_ok-waiting.ensures n (ap (λ ns. has ns n) c.as_slice.ensures.value ∙ in_) unnamed) (sym c.founds_something-founds.ensures ∙ c.if-founds.false)
