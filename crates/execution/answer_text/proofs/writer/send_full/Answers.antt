use Rattle.std.proofs.Common.{ap, sym, ◌∙◌, List, ℕ, ◌++◌, append-nil}
use Rattle.answer_text.proofs.Sent.{on_err}
use Rattle.answer_text.proofs.writer.send_full.Goals as goal

pub returns-clause-ok : goal.returns-clause-ok
returns-clause-ok g c = (c.args.text.now.items, sym (append-nil c.args.text.now.items) ∙ ap (λ (l : List ℕ). c.args.text.now.items ++ l) (sym c.clear.ensures.items), rw c.as_slice.ensures.value at c.in_ok-send_text.ensures.ok)

pub returns-in_err-send_text-clause-front : goal.returns-in_err-send_text-clause-front
returns-in_err-send_text-clause-front g c = on_err _ (rw c.as_slice.ensures.value at c.in_err-send_text.ensures.front)
