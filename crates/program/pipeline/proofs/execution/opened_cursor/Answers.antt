use Rattle.std.proofs.Common.{◌≡◌, ap, List, IfOk, sym, ◌∙◌, subst}
use Rattle.std.proofs.lemmas.Result.{IfOk-weaker}
use Rattle.schema.specs.Databases.{Row}
use Rattle.query.specs.Answer.{IsAnswer}
use Rattle.query.specs.Rows.{tables_in}
use Rattle.cursors.specs.Cursors.{Progress, opened}
use Rattle.pipeline.proofs.Plans.{answer_of, answers_of, runnable_of, short_of}
use Rattle.pipeline.proofs.execution.opened_cursor.Goals as goal

pub returns-clause-rows : goal.returns-clause-rows
returns-clause-rows c =
    let D = c.args.database.now in
    let is = answer_of c.query-query.result.now c.args.checked.now.query c.certificate.result.now c.args.checked.now.certificate D.schema c.in_ok-tables.tables D.tables c.as_slice.result.now c.as_slice-instances.result.now
    (c.as_slice.ensures.value ∙ c.in_ok-columns.ensures) c.as_slice-instances.ensures c.query-query.ensures c.certificate.ensures.certificate (c.in_ok-tables.ensures ∙ c.tables.ensures.tables) in
    subst (λ (z : List Row). IfOk c.open.result (λ cursor. cursor ≡ opened z)) is (c.open.ensures D.schema)

pub returns-clause-answers : goal.returns-clause-answers
returns-clause-answers c = λ same.
    let D = c.args.database.now in
    let answers = answers_of c.args.checked.now.schema D.schema c.args.checked.now.query c.args.checked.now.certificate D.tables c.certificate.ensures.checked c.tables.ensures.satisfies same in
    IfOk-weaker c.open.result _ (λ cursor. IsAnswer c.args.checked.now.query (tables_in D) cursor.to_come) (λ cursor is. subst (IsAnswer c.args.checked.now.query (tables_in D)) (sym (ap (λ (p : Progress). p.to_come) is)) answers) (returns-clause-rows c)

pub open-requires-clause-runnable : goal.open-requires-clause-runnable
open-requires-clause-runnable c =
    let checked = c.args.checked.now in
    runnable_of checked.schema checked.query c.query-query.result.now c.certificate.result.now checked.certificate c.as_slice-instances.result.now c.as_slice-instances.ensures c.query-query.ensures c.certificate.ensures.certificate c.certificate.ensures.checked

pub open-requires-clause-short : goal.open-requires-clause-short
open-requires-clause-short c = short_of c.args.database.now.schema c.in_ok-tables.tables c.args.database.now.tables (c.in_ok-tables.ensures ∙ c.tables.ensures.tables) c.tables.ensures.satisfies
