use Rattle.std.proofs.Common.{◌≡◌, ap, subst, ◌∙◌, List, ◌++◌, [], append-nil, map, Some}
use Rattle.std.proofs.lemmas.Result.{IfOk-weaker}
use Rattle.algebra.specs.Bags.{Env, nulls}
use Rattle.relations.specs.declared.environment.Env.{Empty}
use Rattle.cursors.specs.Opened.{IsOpened}
use Rattle.cursors.specs.Selected.{selected_envs}
use Rattle.cursors.specs.ShownRows.{shown_chunks}
use Rattle.cursors.proofs.shown.shown_rows.Goals as goal

pub returns-in-Selected : goal.returns-in-Selected
returns-in-Selected c = λ K rows is.
    let columns = c.args.columns.now in
    let given = subst (IsOpened K rows) c.in-Selected.is is in
    IfOk-weaker c.shown_from.result _ _ (λ shown shows. shows ∙ append-nil (map (λ e. map e columns) (selected_envs Empty c.in-Selected.selected)) ∙ ap (map (λ e. map e columns)) given.rows_are) c.shown_from.ensures

pub returns-in_ok-none-in-InChunks : goal.returns-in_ok-none-in-InChunks
returns-in_ok-none-in-InChunks c = λ K rows is.
    let columns = c.args.columns.now in
    let j = c.in-InChunks.chunks in
    let given = subst (IsOpened K rows) c.in-InChunks.is is in
    let none : selected_envs Empty c.all_rows-none.result ≡ [] = (c.all_rows-none.ensures Empty).rows_are ∙ (c.in_ok-none-in-InChunks.ensures nulls).rows_are in
    IfOk-weaker c.shown_from-in-InChunks.result _ _ (λ shown shows. shows ∙ ap (λ (l : List Env). map (λ e. map e columns) l ++ shown_chunks (Some j) columns) none ∙ ap (map (λ e. map e columns)) given.rows_are) c.shown_from-in-InChunks.ensures
