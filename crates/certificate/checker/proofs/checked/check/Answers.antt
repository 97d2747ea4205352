use Rattle.std.proofs.Common.{sym, subst}
use Rattle.query.specs.declared.query.Query.{Query}
use Rattle.certificate.proofs.Answers.{checked}
use Rattle.certificate.specs.Replay.{IsChecked}
use Rattle.checker.proofs.checked.check.Goals as goal

pub invariant_of-result : goal.invariant_of-result
invariant_of-result c =
    subst (λ (q : Query). IsChecked c.args.schema.now q c.args.certificate.now) (sym c.query.ensures.query)
    (checked c.args.schema.now c.args.query.now (record { bound = c.query.ensures.bound; over = c.requires }) c.args.certificate.now c.in_ok-_log.ensures.verdict)
