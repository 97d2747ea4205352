use Rattle.std.proofs.lemmas.Result.{IfOk-weaker}
use Rattle.certificate.proofs.Answers.{checked}
use Rattle.pipeline.proofs.explained.explained_query.Goals as goal

pub returns-clause-text : goal.returns-clause-text
returns-clause-text c = IfOk-weaker c.plan_in.result _ _
    (λ text is. (
      c.in_ok-planned.planned.certificate,
      checked c.args.schema.now c.args.query.now c.requires c.in_ok-planned.planned.certificate c.in_ok-planned.ensures.replays,
      is,
    ))
    c.plan_in.ensures.text
