use Rattle.std.proofs.Common.{rules, ◌≡◌, Some, [], ◌∷◌, length, length-append, refl, ap, ◌∙◌, arith}
use Rattle.std.specs.Iterator.Adapters.{zip_first, zip_second}
use Rattle.std.specs.Slice.Iter.{iter_rest}
use Rattle.std.proofs.lemmas.Option.{slice_get_read}
use Rattle.std.proofs.lemmas.Slice.Zip.{zip_turn, zip_end}
use Rattle.serde_json.specs.View.{view, members_view}
use Rattle.statistics_text.proofs.Parts.{known_put, unknown_left_out, columns_within}
use Rattle.statistics_text.proofs.entries.known_columns.Goals as goal

pub loop-column-preserved-in_ok-put : goal.loop-column-preserved-in_ok-put
loop-column-preserved-in_ok-put c =
    let columns = c.args.columns.now in
    let keys = c.args.keys.now in
    let start = c.into_iter-column-iterator.result in
    let first : iter_rest (zip_first start) ≡ columns = search rules in
    let second : iter_rest (zip_second start) ≡ keys = search rules in
    let seen = c.loop-column.yielded in
    let turn = zip_turn columns keys seen start c.loop-column.column-iterator c.next.new.self c.next.result first second c.loop-column.yielded_by _ c.in-Some.is c.next.ensures.steps in
    let column = c.in-Some.column.now in
    let at = slice_get_read columns (length columns) (length seen) column refl turn.0 (turn.2 column) in
    let at' = slice_get_read keys (length keys) (length seen) c.in-Some.keys.now refl turn.1 (turn.3 c.in-Some.keys.now) ∙ ap Some c.in-Some-keys.is in
    let longer = length-append seen ((c.in-Some.column, c.in-Some.keys) ∷ []) in
    rw (longer, c.in_ok-put.ensures.ok, c.as_str.ensures) (known_put columns keys (length seen) column _ (view c.in_ok-column_value.field-0) (members_view c.loop-column.members.entries) c.requires.different at at' c.in_ok-column_value.ensures c.loop-column.invariant)

pub loop-column-preserved : goal.loop-column-preserved
loop-column-preserved c =
    let columns = c.args.columns.now in
    let keys = c.args.keys.now in
    let start = c.into_iter-column-iterator.result in
    let first : iter_rest (zip_first start) ≡ columns = search rules in
    let second : iter_rest (zip_second start) ≡ keys = search rules in
    let seen = c.loop-column.yielded in
    let turn = zip_turn columns keys seen start c.loop-column.column-iterator c.next.new.self c.next.result first second c.loop-column.yielded_by _ c.in-Some.is c.next.ensures.steps in
    let column = c.in-Some.column.now in
    let at = slice_get_read columns (length columns) (length seen) column refl turn.0 (turn.2 column) in
    let at' = slice_get_read keys (length keys) (length seen) c.in-Some.keys.now refl turn.1 (turn.3 c.in-Some.keys.now) ∙ ap Some c.in_default.is in
    let longer = length-append seen ((c.in-Some.column, c.in-Some.keys) ∷ []) in
    rw longer (unknown_left_out columns keys (length seen) column (members_view c.loop-column.members.entries) at at' c.loop-column.invariant)

pub returns : goal.returns
returns c =
    let columns = c.args.columns.now in
    let keys = c.args.keys.now in
    let start = c.into_iter-column-iterator.result in
    let first : iter_rest (zip_first start) ≡ columns = search rules in
    let second : iter_rest (zip_second start) ≡ keys = search rules in
    let seen = c.loop-column.yielded in
    let done = zip_end columns keys seen start c.loop-column.column-iterator c.next.new.self c.next.result first second c.loop-column.yielded_by c.in-None.is c.next.ensures.steps in
    columns_within columns keys (length seen) (members_view c.loop-column.members.entries) c.requires.each (omega arith) c.loop-column.invariant
