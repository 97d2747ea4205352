use Rattle.std.proofs.Common.{◌≡◌, ap, sym, subst, ◌∙◌, ◌<◌, ℕ, List, [], ◌++◌, length, get_or, map, take, append_assoc, arith}
use Rattle.std.proofs.lemmas.List.{get_or-map, length-map, take_all}
use Rattle.values.specs.declared.value.Value.TheVariants as value
use Rattle.values.specs.Cells.{value_of}
use Rattle.values.proofs.Lists.{all_at}
use Rattle.csv.specs.Writing.{default_writer, field_text, next_sep, row_body}
use Rattle.csv.proofs.WriteFacts.{row-step}
use Rattle.schema.specs.Databases.{Row}
use Rattle.store.specs.Fields.{field_of}
use Rattle.answer_text.proofs.fields.push_row.Goals as goal

pub cell-requires-clause-column : goal.cell-requires-clause-column
cell-requires-clause-column g c =
    let many : length (get_or (g.R.RowSource.rows c.args.found.now) c.args.row []) ≡ c.width-width.result = all_at (λ (r : Row). length r ≡ c.width-width.result) (g.R.RowSource.rows c.args.found.now) c.args.row [] c.requires c.width-width.ensures in
    omega (arith, many)

pub loop-item-preserved : goal.loop-item-preserved
loop-item-preserved g c =
    let i = c.loop-item.item in
    let r : Row = get_or (g.R.RowSource.rows c.args.found.now) c.args.row [] in
    let F : List (List ℕ) = map field_of r in
    let old = c.args.text.now.items in
    let many : length r ≡ c.width-width.result = all_at (λ (x : Row). length x ≡ c.width-width.result) (g.R.RowSource.rows c.args.found.now) c.args.row [] c.requires c.width-width.ensures in
    let below : i < length r = omega (arith, many) in
    let text : List ℕ → List ℕ = λ f. next_sep default_writer i ++ field_text default_writer f in
    c.in_ok-push_value.ensures ∙ ap (λ (l : List ℕ). l ++ field_text default_writer (field_of (value_of c.cell.result))) (c.in_ok-push_separator.ensures ∙ ap (λ (l : List ℕ). l ++ next_sep default_writer i) c.loop-item.invariant)
    ∙ append_assoc (old ++ row_body default_writer (take i F)) (next_sep default_writer i) _ ∙ append_assoc old (row_body default_writer (take i F)) (text (field_of (value_of c.cell.result)))
    ∙ ap (λ (l : List ℕ). old ++ l) (ap (λ f. row_body default_writer (take i F) ++ text f) (ap field_of c.cell.ensures ∙ sym (get_or-map field_of r i value.Null [] below)) ∙ sym (row-step default_writer F i (subst (λ n. i < n) (sym (length-map r field_of)) below)))

pub returns : goal.returns
returns g c =
    let r : Row = get_or (g.R.RowSource.rows c.args.found.now) c.args.row [] in
    let F : List (List ℕ) = map field_of r in
    let many : length r ≡ c.width-width.result = all_at (λ (x : Row). length x ≡ c.width-width.result) (g.R.RowSource.rows c.args.found.now) c.args.row [] c.requires c.width-width.ensures in
    let all : length F ≡ c.width-width.result = length-map r field_of ∙ many in
    c.push_end.ensures c.args.text.now.items F (c.loop-item.invariant ∙ ap (λ fs. c.args.text.now.items ++ row_body default_writer fs) (take_all c.loop-item.item F (omega (arith, all)))) (omega (arith, c.len-start.ensures)) all
