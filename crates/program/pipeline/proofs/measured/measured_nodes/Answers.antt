use Rattle.std.proofs.Common.{◌≡◌, ◌∙◌}
use Rattle.std.proofs.lemmas.Result.{IfOk-weaker}
use Rattle.pipeline.proofs.Plans.{measured_of, runnable_of, short_of}
use Rattle.pipeline.proofs.measured.measured_nodes.Goals as goal

pub measures-requires-clause-runnable : goal.measures-requires-clause-runnable
measures-requires-clause-runnable g c =
    let checked = c.args.checked.now in
    runnable_of checked.schema checked.query c.query-query.result.now c.certificate.result.now checked.certificate c.as_slice-instances.result.now c.as_slice-instances.ensures c.query-query.ensures c.certificate.ensures.certificate c.certificate.ensures.checked

pub measures-requires-clause-short : goal.measures-requires-clause-short
measures-requires-clause-short g c = short_of c.args.database.now.schema c.in_ok-tables.tables c.args.database.now.tables (c.in_ok-tables.ensures ∙ c.tables.ensures.tables) c.tables.ensures.satisfies

pub returns : goal.returns
returns g c =
    let D = c.args.database.now in
    IfOk-weaker c.measures.result _ _
    (λ all is. measured_of c.query-query.result.now c.args.checked.now.query c.certificate.result.now c.args.checked.now.certificate D.schema c.in_ok-tables.tables D.tables c.as_slice-instances.result.now all.items
    c.as_slice-instances.ensures c.query-query.ensures c.certificate.ensures.certificate (c.in_ok-tables.ensures ∙ c.tables.ensures.tables) is)
    (c.measures.ensures D.schema)
