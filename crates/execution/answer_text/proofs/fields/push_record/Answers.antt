use Rattle.std.proofs.Common.{◌≡◌, ap, sym, subst, ◌∙◌, ◌<◌, ℕ, List, [], ◌++◌, length, get_or, map, take, append_assoc, arith}
use Rattle.std.proofs.lemmas.List.{get_or-map, length-map, take_all}
use Rattle.csv.specs.Writing.{default_writer, field_text, next_sep, row_body}
use Rattle.csv.proofs.WriteFacts.{row-step}
use Rattle.store.specs.Fields.{field_of}
use Rattle.answer_text.proofs.fields.push_record.Goals as goal

pub loop-item-preserved : goal.loop-item-preserved
loop-item-preserved c =
    let i = c.loop-item.item in
    let F : List (List ℕ) = map field_of c.args.values.now in
    let old = c.args.text.now.items in
    let below : i < length c.args.values.now = omega arith in
    let field : List ℕ = field_of c.index-values-item.result in
    let at : get_or F i [] ≡ field = get_or-map field_of c.args.values.now i c.index-values-item.result [] below ∙ ap field_of (sym c.index-values-item.is) in
    c.in_ok-push_value.ensures ∙ ap (λ v. c.push_separator.new.text.items ++ field_text default_writer (field_of v)) c.as_cell.ensures
    ∙ ap (λ (l : List ℕ). l ++ field_text default_writer field) (c.in_ok-push_separator.ensures ∙ ap (λ (l : List ℕ). l ++ next_sep default_writer i) c.loop-item.invariant)
    ∙ append_assoc (old ++ row_body default_writer (take i F)) (next_sep default_writer i) _ ∙ append_assoc old (row_body default_writer (take i F)) (next_sep default_writer i ++ field_text default_writer field)
    ∙ ap (λ (l : List ℕ). old ++ l) (ap (λ f. row_body default_writer (take i F) ++ (next_sep default_writer i ++ field_text default_writer f)) (sym at) ∙ sym (row-step default_writer F i (subst (λ n. i < n) (sym (length-map c.args.values.now field_of)) below)))

pub returns : goal.returns
returns c =
    let F : List (List ℕ) = map field_of c.args.values.now in
    let all : length F ≡ length c.args.values.now = length-map c.args.values.now field_of in
    c.push_end.ensures c.args.text.now.items F (c.loop-item.invariant ∙ ap (λ fs. c.args.text.now.items ++ row_body default_writer fs) (take_all c.loop-item.item F (omega (arith, all)))) (omega (arith, c.len-start.ensures)) all
