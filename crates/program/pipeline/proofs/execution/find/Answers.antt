use Rattle.std.proofs.Common.{◌≡◌, List, IfOk, sym, ◌∙◌, subst}
use Rattle.std.proofs.lemmas.Result.{IfOk-weaker}
use Rattle.schema.specs.Databases.{Row}
use Rattle.query.specs.Answer.{IsAnswer}
use Rattle.query.specs.Rows.{tables_in}
use Rattle.pipeline.proofs.Plans.{answer_of, answers_of, runnable_of, short_of}
use Rattle.pipeline.proofs.execution.find.Goals as goal

pub returns-clause-rows : goal.returns-clause-rows
returns-clause-rows c =
    let D = c.args.database.now in
    let is = answer_of c.query-query.result.now c.args.checked.now.query c.certificate.result.now c.args.checked.now.certificate D.schema c.in_ok-tables.tables D.tables c.as_slice.result.now c.as_slice-instances.result.now
    (c.as_slice.ensures.value ∙ c.in_ok-columns.ensures) c.as_slice-instances.ensures c.query-query.ensures c.certificate.ensures.certificate (c.in_ok-tables.ensures ∙ c.tables.ensures.tables) in
    subst (λ (z : List Row). IfOk c.plan_found.result (λ rows. rows ≡ z)) is (c.plan_found.ensures D.schema)

pub returns-clause-answers : goal.returns-clause-answers
returns-clause-answers c = λ same.
    let D = c.args.database.now in
    let answers = answers_of c.args.checked.now.schema D.schema c.args.checked.now.query c.args.checked.now.certificate D.tables c.certificate.ensures.checked c.tables.ensures.satisfies same in
    IfOk-weaker c.plan_found.result _ (λ rows. IsAnswer c.args.checked.now.query (tables_in D) rows) (λ rows is. subst (IsAnswer c.args.checked.now.query (tables_in D)) (sym is) answers) (returns-clause-rows c)

pub plan_found-requires-clause-runnable : goal.plan_found-requires-clause-runnable
plan_found-requires-clause-runnable c =
    let checked = c.args.checked.now in
    runnable_of checked.schema checked.query c.query-query.result.now c.certificate.result.now checked.certificate c.as_slice-instances.result.now c.as_slice-instances.ensures c.query-query.ensures c.certificate.ensures.certificate c.certificate.ensures.checked

pub plan_found-requires-clause-short : goal.plan_found-requires-clause-short
plan_found-requires-clause-short c = short_of c.args.database.now.schema c.in_ok-tables.tables c.args.database.now.tables (c.in_ok-tables.ensures ∙ c.tables.ensures.tables) c.tables.ensures.satisfies
