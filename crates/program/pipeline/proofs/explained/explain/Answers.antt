use Rattle.std.proofs.Common.{◌∙◌, ap, subst, sym, Err}
use Rattle.std.proofs.lemmas.Result.{err_from_is_err_and, IfErr-weaker, IfOk-weaker}
use Rattle.pipeline.specs.Explained.{IsNotExplained}
use Rattle.pipeline.specs.Refusals.{of_statistics}
use Rattle.pipeline.proofs.Answered.{of_fault}
use Rattle.pipeline.proofs.Prepared.{asks_prepared, query_bound}
use Rattle.pipeline.proofs.Explaining.{not_counted, is_explained}
use Rattle.pipeline.proofs.explained.explain.Goals as goal

pub returns-in_err-statistics-clause-refused : goal.returns-in_err-statistics-clause-refused
returns-in_err-statistics-clause-refused c =
    let p = err_from_is_err_and c.from_residual-in_err-statistics.result c.from_residual-in_err-statistics.ensures.1 in
    of_fault c.from_residual-in_err-statistics.result (of_statistics c.in_err-statistics.field-0.0) _ (p.1 ∙ ap Err p.2)
    (not_counted c.args.schema.now c.args.text.now c.args.statistics.now c.in_ok-schema.schema c.in_ok-asked.asked c.in_err-statistics.field-0.0
    (record { is_schema = c.in_ok-schema.ensures.exact; is_query = c.in_ok-asked.ensures.ok }) c.in_err-statistics.ensures.exact)

pub explained_query-requires : goal.explained_query-requires
explained_query-requires c = query_bound c.args.text.now c.in_ok-schema.schema c.in_ok-query.query (asks_prepared c.args.schema.now c.args.text.now c.in_ok-schema.schema c.in_ok-asked.asked c.in_ok-query.query c.in_ok-schema.ensures.exact c.in_ok-asked.ensures.ok c.in_ok-query.ensures).is_query

pub returns-clause-explained : goal.returns-clause-explained
returns-clause-explained c = IfOk-weaker c.explained_query.result _ _
    (λ text. is_explained c.args.form c.args.schema.now c.args.text.now c.args.statistics.now text.items c.in_ok-schema.schema c.in_ok-query.query c.in_ok-statistics.statistics
    (asks_prepared c.args.schema.now c.args.text.now c.in_ok-schema.schema c.in_ok-asked.asked c.in_ok-query.query c.in_ok-schema.ensures.exact c.in_ok-asked.ensures.ok c.in_ok-query.ensures) c.in_ok-statistics.ensures.exact)
    c.explained_query.ensures.text

pub returns-clause-refused : goal.returns-clause-refused
returns-clause-refused c = IfErr-weaker c.explained_query.result _ _
    (λ r is. subst (IsNotExplained c.args.schema.now c.args.text.now c.args.statistics.now) (sym is) tt)
    c.explained_query.ensures.memory
