use Rattle.std.proofs.Common.{◌≡◌, ◌∙◌, ap, subst, Ok, Err}
use Rattle.std.proofs.lemmas.Result.{err_from_is_err_and, on_ok_weaker, IfErr-weaker}
use Rattle.certificate.proofs.Answers.{checked}
use Rattle.statistics.specs.Reading.{statistics_of}
use Rattle.pipeline.specs.EndToEnd.{IsQuery}
use Rattle.pipeline.specs.Refusals.{of_certificate, of_schema, of_statistics}
use Rattle.pipeline.proofs.Answered.{of_fault}
use Rattle.pipeline.proofs.Completeness.{one_query, one_schema, query_read, schema_read}
use Rattle.pipeline.proofs.Prepared.{asks_prepared, query_bound}
use Rattle.pipeline.proofs.ShownLeast.{accepted_least, counted, not_counted_least, one_counts, refused_least, same_passes, statistics_read, text_not_least}
use Rattle.pipeline.proofs.least.check_least.Goals as goal

pub returns-in_err-statistics-clause-refused : goal.returns-in_err-statistics-clause-refused
returns-in_err-statistics-clause-refused c =
    let p = err_from_is_err_and c.from_residual-in_err-statistics.result c.from_residual-in_err-statistics.ensures.1 in
    of_fault c.from_residual-in_err-statistics.result (of_statistics c.in_err-statistics.field-0.0) _ (p.1 ∙ ap Err p.2)
    (not_counted_least c.args.schema.now c.args.text.now c.args.statistics.now c.args.labelled.now c.in_ok-schema.schema c.in_ok-asked.asked c.in_err-statistics.field-0.0
    (record { is_schema = c.in_ok-schema.ensures.exact; is_query = c.in_ok-asked.ensures.ok }) c.in_err-statistics.ensures.exact)

pub returns-in_err-read-clause-refused : goal.returns-in_err-read-clause-refused
returns-in_err-read-clause-refused c =
    let p = err_from_is_err_and c.from_residual-in_err-read.result c.from_residual-in_err-read.ensures.1 in
    of_fault c.from_residual-in_err-read.result (of_certificate c.in_err-read.field-0.0) _ (p.1 ∙ ap Err p.2)
    (text_not_least c.args.schema.now c.args.text.now c.args.statistics.now c.args.labelled.now c.in_err-read.field-0.0
    (counted c.args.schema.now c.args.text.now c.args.statistics.now c.in_ok-schema.schema c.in_ok-asked.asked c.in_ok-statistics.statistics (record { is_schema = c.in_ok-schema.ensures.exact; is_query = c.in_ok-asked.ensures.ok }) c.in_ok-statistics.ensures.exact)
    c.in_err-read.ensures.complete c.in_err-read.ensures.refused)

pub returns-clause-accepted : goal.returns-clause-accepted
returns-clause-accepted c =
    let asks = (asks_prepared c.args.schema.now c.args.text.now c.in_ok-schema.schema c.in_ok-asked.asked c.in_ok-query.query c.in_ok-schema.ensures.exact c.in_ok-asked.ensures.ok c.in_ok-query.ensures) in
    on_ok_weaker c.accept_least.result
    (λ h. accepted_least c.args.schema.now c.args.text.now c.args.statistics.now c.args.labelled.now (counted c.args.schema.now c.args.text.now c.args.statistics.now c.in_ok-schema.schema c.in_ok-query.query c.in_ok-statistics.statistics asks c.in_ok-statistics.ensures.exact)
    c.in_ok-read.read.certificate c.in_ok-read.read.labels c.in_ok-read.ensures.sound
    (checked c.in_ok-schema.schema c.in_ok-query.query (query_bound c.args.text.now c.in_ok-schema.schema c.in_ok-query.query asks.is_query) c.in_ok-read.read.certificate h.0) h.1)
    (rw c.as_slice.ensures at c.accept_least.ensures.accepted)

pub returns-clause-refused : goal.returns-clause-refused
returns-clause-refused c =
    let asks = (asks_prepared c.args.schema.now c.args.text.now c.in_ok-schema.schema c.in_ok-asked.asked c.in_ok-query.query c.in_ok-schema.ensures.exact c.in_ok-asked.ensures.ok c.in_ok-query.ensures) in
    IfErr-weaker c.accept_least.result _ _
    (λ r. refused_least c.args.schema.now c.args.text.now c.args.statistics.now c.args.labelled.now (counted c.args.schema.now c.args.text.now c.args.statistics.now c.in_ok-schema.schema c.in_ok-query.query c.in_ok-statistics.statistics asks c.in_ok-statistics.ensures.exact)
    c.in_ok-read.read.certificate c.in_ok-read.read.labels r (query_bound c.args.text.now c.in_ok-schema.schema c.in_ok-query.query asks.is_query) c.in_ok-read.ensures.sound)
    (rw c.as_slice.ensures at c.accept_least.ensures.refused)

pub returns-in_err-schema-clause-complete : goal.returns-in_err-schema-clause-complete
returns-in_err-schema-clause-complete c = λ a.
    let p = err_from_is_err_and c.from_residual.result c.from_residual.ensures.1 in
    of_fault c.from_residual.result (of_schema c.in_err-schema.field-0.0) _ (p.1 ∙ ap Err p.2)
    (schema_read c.args.schema.now a.0.asked.S c.in_err-schema.field-0.0 a.0.asked.asks.is_schema c.in_err-schema.ensures.exact)

pub returns-in_err-asked-clause-complete : goal.returns-in_err-asked-clause-complete
returns-in_err-asked-clause-complete c = λ a.
    let p = err_from_is_err_and c.from_residual-in_err-asked.result c.from_residual-in_err-asked.ensures.1 in
    let S = c.in_ok-schema.schema in
    let asked = a.0.asked in
    of_fault c.from_residual-in_err-asked.result c.in_err-asked.field-0.0 _ (p.1 ∙ ap Err p.2)
    (query_read c.args.text.now S asked.query c.in_err-asked.field-0.0 (subst (λ T. IsQuery c.args.text.now T asked.query) (one_schema c.args.schema.now asked.S S asked.asks.is_schema c.in_ok-schema.ensures.exact) asked.asks.is_query) c.in_err-asked.ensures.fails)

pub returns-in_err-statistics-clause-complete : goal.returns-in_err-statistics-clause-complete
returns-in_err-statistics-clause-complete c = λ a.
    let p = err_from_is_err_and c.from_residual-in_err-statistics.result c.from_residual-in_err-statistics.ensures.1 in
    let S = c.in_ok-schema.schema in
    let asked = a.0.asked in
    of_fault c.from_residual-in_err-statistics.result (of_statistics c.in_err-statistics.field-0.0) _ (p.1 ∙ ap Err p.2)
    (statistics_read c.args.statistics.now S asked.counts c.in_err-statistics.field-0.0
    (subst (λ T. statistics_of T c.args.statistics.now ≡ Ok asked.counts) (one_schema c.args.schema.now asked.S S asked.asks.is_schema c.in_ok-schema.ensures.exact) asked.are_counts) c.in_err-statistics.ensures.exact)

pub returns-in_err-read-clause-complete : goal.returns-in_err-read-clause-complete
returns-in_err-read-clause-complete c = λ a.
    let p = err_from_is_err_and c.from_residual-in_err-read.result c.from_residual-in_err-read.ensures.1 in
    of_fault c.from_residual-in_err-read.result (of_certificate c.in_err-read.field-0.0) _ (p.1 ∙ ap Err p.2)
    (ap of_certificate (c.in_err-read.ensures.complete a.0.certificate a.0.labels a.1 a.2 a.0.is_text))

pub returns-clause-complete : goal.returns-clause-complete
returns-clause-complete c = λ a.
    let S = c.in_ok-schema.schema in
    let asked = a.0.asked in
    let schema = one_schema c.args.schema.now asked.S S asked.asks.is_schema c.in_ok-schema.ensures.exact in
    let asks = (asks_prepared c.args.schema.now c.args.text.now c.in_ok-schema.schema c.in_ok-asked.asked c.in_ok-query.query c.in_ok-schema.ensures.exact c.in_ok-asked.ensures.ok c.in_ok-query.ensures) in
    let query = one_query c.args.text.now S c.in_ok-query.query asked.query asks.is_query (subst (λ T. IsQuery c.args.text.now T asked.query) schema asked.asks.is_query) in
    let counts = one_counts c.args.statistics.now S c.in_ok-statistics.statistics asked.counts c.in_ok-statistics.ensures.exact (subst (λ T. statistics_of T c.args.statistics.now ≡ Ok asked.counts) schema asked.are_counts) in
    let read = c.in_ok-read.ensures.complete a.0.certificate a.0.labels a.1 a.2 a.0.is_text in
    IfErr-weaker c.accept_least.result _ _
    (λ r. same_passes c.in_ok-statistics.statistics asked.counts c.in_ok-query.query asked.query c.in_ok-read.read.certificate a.0.certificate c.in_ok-read.read.labels a.0.labels r counts query read.0 read.1 a.0.checked.replays a.0.shown)
    (rw c.as_slice.ensures at c.accept_least.ensures.refused)
