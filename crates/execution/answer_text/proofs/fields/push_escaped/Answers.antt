use Rattle.std.proofs.Common.{ap, sym, ◌∙◌, List, ℕ, [], ◌∷◌, ◌++◌, refl}
use Rattle.csv.specs.Writing.{default_writer}
use Rattle.csv.proofs.WriteFacts.{escaped-double, escaped-other}
use Rattle.answer_text.proofs.fields.push_escaped.Goals as goal

pub returns-then-byte-eq34 : goal.returns-then-byte-eq34
returns-then-byte-eq34 c =
    c.in_ok-extend_from_slice.ensures.items ∙ ap (λ (l : List ℕ). c.args.text.now.items ++ l) (sym (escaped-double default_writer c.args.byte c.if-byte-eq34.true refl ∙ ap (λ (x : ℕ). x ∷ x ∷ []) c.if-byte-eq34.true))

pub returns : goal.returns
returns c = c.in_ok-push.ensures.items ∙ ap (λ (l : List ℕ). c.args.text.now.items ++ l) (sym (escaped-other default_writer c.args.byte c.if-byte-eq34.false))
