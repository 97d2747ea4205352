use Rattle.std.proofs.Common.{ap, ◌∙◌, ◌++◌, ◌∷◌, []}
use Rattle.lean_logs.specs.Texts as spec
use Rattle.lean_logs.proofs.Texts.{stays_entered, entered_there, same_entered}
use Rattle.lean_logs.proofs.expr_text.enter.Goals as goal

pub returns-in_err-insert-clause-stays : goal.returns-in_err-insert-clause-stays
returns-in_err-insert-clause-stays c = same_entered c.args.lines.now c.insert.new.self c.in_err-insert.ensures.err

pub returns-clause-stays : goal.returns-clause-stays
returns-clause-stays c = stays_entered c.args.lines.now c.insert.new.self _ _ c.args.line c.in_ok-insert.ensures.updates
    (c.in_ok-push.ensures.items ∙ ap (λ ns. ns ++ (c.args.line ∷ [])) (c.in_ok-with_text.ensures.items ∙ c.lines_by.ensures ∙ ap (spec.lines_by c.args.lines.now) c.as_str.ensures.value))

pub returns-clause-entered : goal.returns-clause-entered
returns-clause-entered c = entered_there c.args.lines.now c.insert.new.self _ _ c.args.line c.in_ok-insert.ensures.updates
    (c.in_ok-push.ensures.items ∙ ap (λ ns. ns ++ (c.args.line ∷ [])) (c.in_ok-with_text.ensures.items ∙ c.lines_by.ensures ∙ ap (spec.lines_by c.args.lines.now) c.as_str.ensures.value))
