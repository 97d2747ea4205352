use Rattle.std.proofs.Common.{◌≡◌, refl, ap, sym, subst, ◌∙◌, ◌<◌, ℕ, List, [], ◌++◌, length, get_or, take, append_assoc, arith}
use Rattle.std.proofs.lemmas.List.{get_or_default, take_all}
use Rattle.csv.specs.Writing.{default_writer, field_text, next_sep, row_body}
use Rattle.csv.proofs.WriteFacts.{row-step}
use Rattle.answer_text.proofs.fields.push_names.Goals as goal

pub loop-item-preserved : goal.loop-item-preserved
loop-item-preserved c =
    let i = c.loop-item.item in
    let F : List (List ℕ) = c.args.names.now in
    let old = c.args.text.now.items in
    let below : i < length c.args.names.now = omega arith in
    let field : List ℕ = c.index-names-item.result in
    let at : get_or F i [] ≡ field = get_or_default c.args.names.now i [] c.index-names-item.result below ∙ sym c.index-names-item.is in
    c.in_ok-push_field.ensures ∙ ap (λ (v : List ℕ). c.push_separator.new.text.items ++ field_text default_writer v) (c.as_bytes.ensures.value ∙ c.as_str.ensures)
    ∙ ap (λ (l : List ℕ). l ++ field_text default_writer field) (c.in_ok-push_separator.ensures ∙ ap (λ (l : List ℕ). l ++ next_sep default_writer i) c.loop-item.invariant)
    ∙ append_assoc (old ++ row_body default_writer (take i F)) (next_sep default_writer i) _ ∙ append_assoc old (row_body default_writer (take i F)) (next_sep default_writer i ++ field_text default_writer field)
    ∙ ap (λ (l : List ℕ). old ++ l) (ap (λ f. row_body default_writer (take i F) ++ (next_sep default_writer i ++ field_text default_writer f)) (sym at) ∙ sym (row-step default_writer F i (subst (λ n. i < n) (sym (refl)) below)))

pub returns : goal.returns
returns c =
    let F : List (List ℕ) = c.args.names.now in
    let all : length F ≡ length c.args.names.now = refl in
    c.push_end.ensures c.args.text.now.items F (c.loop-item.invariant ∙ ap (λ fs. c.args.text.now.items ++ row_body default_writer fs) (take_all c.loop-item.item F (omega (arith, all)))) (omega (arith, c.len-start.ensures)) all
