use Rattle.pipeline.proofs.Acceptance.{checked_itself}
use Rattle.pipeline.proofs.certified.accept.Goals as goal

pub returns-clause-accepted : goal.returns-clause-accepted
returns-clause-accepted c = checked_itself c.in_ok-checked.checked c.args.schema.now c.args.query.now c.args.certificate.now c.in_ok-checked.ensures.of c.in_ok-checked.ensures.verdict c.certificate-certificate.ensures.checked
