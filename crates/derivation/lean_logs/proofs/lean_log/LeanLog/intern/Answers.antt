use Rattle.std.proofs.Common.{subst, ◌≡◌, length}
use Rattle.std.specs.Option.{IfSome}
use Rattle.derivation.specs.declared.line.Line.TheVariants.{Founds}
use Rattle.lean_logs.specs.Founding.{IsAdded}
use Rattle.lean_logs.proofs.Founding.{added_extends}
use Rattle.lean_logs.proofs.lean_log.LeanLog.intern.Goals as goal

pub returns-in-Some-2-clause-extends : goal.returns-in-Some-2-clause-extends
returns-in-Some-2-clause-extends c =
    let added = subst (λ o. IfSome o (λ number. IsAdded c.args.limit c.args.self.now (Founds c.args.expr) c.append.new.self × (number ≡ length c.args.self.now.log))) c.in-Some-2.is c.in_ok-line.ensures.some in
    added_extends _ _ _ _ added.0
