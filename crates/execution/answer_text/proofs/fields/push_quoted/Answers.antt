use Rattle.std.proofs.Common.{ap, sym, ◌∙◌, List, ℕ, [], ◌∷◌, ◌++◌, take, get_or, append_assoc, arith}
use Rattle.std.proofs.lemmas.List.{take_all, take_more}
use Rattle.csv.specs.Writing.{default_writer, escaped}
use Rattle.csv.proofs.WriteFacts.{escaped-append}
use Rattle.answer_text.proofs.fields.push_quoted.Goals as goal

pub loop-byte-init : goal.loop-byte-init
unfolding escaped
loop-byte-init c = c.in_ok-push.ensures.items

pub loop-byte-preserved : goal.loop-byte-preserved
loop-byte-preserved c =
    let i = c.loop-byte.byte-index in
    let field = c.args.field.now in
    let old = c.args.text.now.items in
    let b = get_or field i 0 in
    c.in_ok-push_escaped.ensures ∙ ap (λ (l : List ℕ). l ++ escaped default_writer (b ∷ [])) c.loop-byte.invariant ∙ append_assoc old (34 ∷ escaped default_writer (take i field)) (escaped default_writer (b ∷ []))
    ∙ ap (λ (l : List ℕ). old ++ (34 ∷ l)) (sym (escaped-append default_writer (take i field) (b ∷ [])) ∙ ap (escaped default_writer) (sym (take_more field i 0 (omega arith))))

pub returns : goal.returns
returns c =
    let field = c.args.field.now in
    let old = c.args.text.now.items in
    c.in_ok-push-2.ensures.items ∙ ap (λ (l : List ℕ). l ++ 34 ∷ []) (c.loop-byte.invariant ∙ ap (λ (l : List ℕ). old ++ (34 ∷ escaped default_writer l)) (take_all c.loop-byte.byte-index field (omega arith)))
    ∙ append_assoc old (34 ∷ escaped default_writer field) (34 ∷ [])
