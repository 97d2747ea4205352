use Rattle.std.proofs.Common.{◌∙◌, ap, subst, Err}
use Rattle.std.proofs.lemmas.Result.{err_from_is_err_and, on_ok_weaker, IfErr-weaker}
use Rattle.pipeline.proofs.Answered.{of_fault}
use Rattle.pipeline.proofs.Prepared.{asks_prepared, query_bound}
use Rattle.pipeline.proofs.Acceptance.{text_not_accepted, check_not_accepted, accepted}
use Rattle.pipeline.specs.Refusals.{of_certificate, of_schema}
use Rattle.pipeline.specs.EndToEnd.{IsQuery}
use Rattle.pipeline.proofs.Completeness.{check_passes, one_query, one_schema, query_read, schema_read}
use Rattle.pipeline.proofs.certified.check.Goals as goal

pub returns-in_err-certificate-clause-refused : goal.returns-in_err-certificate-clause-refused
returns-in_err-certificate-clause-refused c =
    let p = err_from_is_err_and c.from_residual-in_err-certificate.result c.from_residual-in_err-certificate.ensures.1 in
    of_fault c.from_residual-in_err-certificate.result (of_certificate c.in_err-certificate.field-0.0) _ (p.1 ∙ ap Err p.2)
    (text_not_accepted c.args.schema.now c.args.text.now c.args.certificate.now c.in_ok-schema.schema c.in_ok-asked.asked c.in_err-certificate.field-0.0
    (record { is_schema = c.in_ok-schema.ensures.exact; is_query = c.in_ok-asked.ensures.ok }) c.in_err-certificate.ensures.complete c.in_err-certificate.ensures.refused)

pub accept-requires : goal.accept-requires
accept-requires c = (query_bound c.args.text.now c.in_ok-schema.schema c.in_ok-query.query (asks_prepared c.args.schema.now c.args.text.now c.in_ok-schema.schema c.in_ok-asked.asked c.in_ok-query.query c.in_ok-schema.ensures.exact c.in_ok-asked.ensures.ok c.in_ok-query.ensures).is_query).over

pub returns-clause-accepted : goal.returns-clause-accepted
returns-clause-accepted c = on_ok_weaker c.accept.result
    (accepted c.args.schema.now c.args.text.now c.args.certificate.now c.in_ok-schema.schema c.in_ok-query.query c.in_ok-certificate.certificate
    (asks_prepared c.args.schema.now c.args.text.now c.in_ok-schema.schema c.in_ok-asked.asked c.in_ok-query.query c.in_ok-schema.ensures.exact c.in_ok-asked.ensures.ok c.in_ok-query.ensures) c.in_ok-certificate.ensures.sound)
    c.accept.ensures.accepted

pub returns-clause-refused : goal.returns-clause-refused
returns-clause-refused c = IfErr-weaker c.accept.result _ _
    (λ r. check_not_accepted c.args.schema.now c.args.text.now c.args.certificate.now c.in_ok-schema.schema c.in_ok-query.query c.in_ok-certificate.certificate r
    (asks_prepared c.args.schema.now c.args.text.now c.in_ok-schema.schema c.in_ok-asked.asked c.in_ok-query.query c.in_ok-schema.ensures.exact c.in_ok-asked.ensures.ok c.in_ok-query.ensures) c.in_ok-certificate.ensures.sound)
    c.accept.ensures.refused

pub returns-in_err-schema-clause-complete : goal.returns-in_err-schema-clause-complete
returns-in_err-schema-clause-complete c = λ a.
    let p = err_from_is_err_and c.from_residual.result c.from_residual.ensures.1 in
    of_fault c.from_residual.result (of_schema c.in_err-schema.field-0.0) _ (p.1 ∙ ap Err p.2) (schema_read c.args.schema.now a.0.S c.in_err-schema.field-0.0 a.0.asks.is_schema c.in_err-schema.ensures.exact)

pub returns-in_err-asked-clause-complete : goal.returns-in_err-asked-clause-complete
returns-in_err-asked-clause-complete c = λ a.
    let p = err_from_is_err_and c.from_residual-in_err-asked.result c.from_residual-in_err-asked.ensures.1 in
    let S = c.in_ok-schema.schema in
    of_fault c.from_residual-in_err-asked.result c.in_err-asked.field-0.0 _ (p.1 ∙ ap Err p.2)
    (query_read c.args.text.now S a.0.query c.in_err-asked.field-0.0 (subst (λ T. IsQuery c.args.text.now T a.0.query) (one_schema c.args.schema.now a.0.S S a.0.asks.is_schema c.in_ok-schema.ensures.exact) a.0.asks.is_query) c.in_err-asked.ensures.fails)

pub returns-in_err-certificate-clause-complete : goal.returns-in_err-certificate-clause-complete
returns-in_err-certificate-clause-complete c = λ a.
    let p = err_from_is_err_and c.from_residual-in_err-certificate.result c.from_residual-in_err-certificate.ensures.1 in
    of_fault c.from_residual-in_err-certificate.result (of_certificate c.in_err-certificate.field-0.0) _ (p.1 ∙ ap Err p.2) (ap of_certificate (c.in_err-certificate.ensures.complete a.0.checked_is a.1 a.0.is_certificate))

pub returns-clause-complete : goal.returns-clause-complete
returns-clause-complete c = λ a.
    let S = c.in_ok-schema.schema in
    let schema = one_schema c.args.schema.now a.0.S S a.0.asks.is_schema c.in_ok-schema.ensures.exact in
    let query = one_query c.args.text.now S c.in_ok-query.query a.0.query (asks_prepared c.args.schema.now c.args.text.now c.in_ok-schema.schema c.in_ok-asked.asked c.in_ok-query.query c.in_ok-schema.ensures.exact c.in_ok-asked.ensures.ok c.in_ok-query.ensures).is_query (subst (λ T. IsQuery c.args.text.now T a.0.query) schema a.0.asks.is_query) in
    let read = c.in_ok-certificate.ensures.complete a.0.checked_is a.1 a.0.is_certificate in
    IfErr-weaker c.accept.result _ _ (λ r. check_passes c.in_ok-query.query a.0.query c.in_ok-certificate.certificate a.0.checked_is r query read a.0.checked.replays) c.accept.ensures.refused
