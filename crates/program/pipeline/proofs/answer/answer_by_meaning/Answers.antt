use Rattle.std.proofs.Common.{◌∙◌, ap, Err, inr}
use Rattle.std.proofs.lemmas.Result.{err_from_is_err_and}
use Rattle.pipeline.specs.Refusals.{of_answer}
use Rattle.pipeline.proofs.Answered.{on_fault}
use Rattle.pipeline.proofs.answer.answer_by_meaning.Goals as goal

pub returns-in_err-write_rows-clause-front : goal.returns-in_err-write_rows-clause-front
returns-in_err-write_rows-clause-front g c =
    let p = err_from_is_err_and c.from_residual-in_err-write_rows.result c.from_residual-in_err-write_rows.ensures.1 in
    on_fault c.from_residual-in_err-write_rows.result (of_answer c.in_err-write_rows.field-0.0) _ (p.1 ∙ ap Err p.2)
    (inr (c.in_ok-rows.rows.items, rw c.query-query.ensures.query at c.in_ok-rows.ensures, rw (c.as_slice.ensures.value, c.query-query.ensures.query) at c.in_err-write_rows.ensures.front))
