use Rattle.std.proofs.Common.{rules, ◌≡◌, [], ◌∷◌, length, length-append, refl, arith}
use Rattle.std.specs.Iterator.Adapters.{zip_first, zip_second}
use Rattle.std.specs.Slice.Iter.{iter_rest}
use Rattle.std.proofs.lemmas.Option.{slice_get_read}
use Rattle.std.proofs.lemmas.Slice.Zip.{zip_turn, zip_end}
use Rattle.serde_json.specs.View.{view, members_view}
use Rattle.schema.proofs.Steps.{pairs_length}
use Rattle.statistics_text.specs.Shapes.{FitsTable}
use Rattle.statistics_text.proofs.Members.{pairs_get}
use Rattle.statistics_text.proofs.Parts.{table_put, tables_within}
use Rattle.statistics_text.proofs.entries.each_table.Goals as goal

pub table_value-requires-clause-fitting : goal.table_value-requires-clause-fitting
table_value-requires-clause-fitting c =
    let tables = c.args.tables.now in
    let counted = c.args.counted.now in
    let start = c.into_iter-table-iterator.result in
    let first : iter_rest (zip_first start) ≡ tables = search rules in
    let second : iter_rest (zip_second start) ≡ counted = search rules in
    let seen = c.loop-table.yielded in
    let turn = zip_turn tables counted seen start c.loop-table.table-iterator c.next.new.self c.next.result first second c.loop-table.yielded_by _ c.in-Some.is c.next.ensures.steps in
    let table = c.in-Some.table.now in
    let counts = c.in-Some.counts.now in
    let at = slice_get_read tables (length tables) (length seen) table refl turn.0 (turn.2 table) in
    let at' = slice_get_read counted (length counted) (length seen) counts refl turn.1 (turn.3 counts) in
    pairs_get FitsTable tables counted (length seen) table counts c.requires.fitting at at'

pub loop-table-preserved : goal.loop-table-preserved
loop-table-preserved c =
    let tables = c.args.tables.now in
    let counted = c.args.counted.now in
    let start = c.into_iter-table-iterator.result in
    let first : iter_rest (zip_first start) ≡ tables = search rules in
    let second : iter_rest (zip_second start) ≡ counted = search rules in
    let seen = c.loop-table.yielded in
    let turn = zip_turn tables counted seen start c.loop-table.table-iterator c.next.new.self c.next.result first second c.loop-table.yielded_by _ c.in-Some.is c.next.ensures.steps in
    let table = c.in-Some.table.now in
    let counts = c.in-Some.counts.now in
    let at = slice_get_read tables (length tables) (length seen) table refl turn.0 (turn.2 table) in
    let at' = slice_get_read counted (length counted) (length seen) counts refl turn.1 (turn.3 counts) in
    let longer = length-append seen ((c.in-Some.table, c.in-Some.counts) ∷ []) in
    rw (longer, c.in_ok-put.ensures.ok, c.as_str.ensures) (table_put tables counted (length seen) table counts (view c.in_ok-table_value.field-0) (members_view c.loop-table.members.entries) c.requires.different at at' c.in_ok-table_value.ensures c.loop-table.invariant)

pub returns : goal.returns
returns c =
    let tables = c.args.tables.now in
    let counted = c.args.counted.now in
    let start = c.into_iter-table-iterator.result in
    let first : iter_rest (zip_first start) ≡ tables = search rules in
    let second : iter_rest (zip_second start) ≡ counted = search rules in
    let seen = c.loop-table.yielded in
    let done = zip_end tables counted seen start c.loop-table.table-iterator c.next.new.self c.next.result first second c.loop-table.yielded_by c.in-None.is c.next.ensures.steps in
    let size = pairs_length FitsTable tables counted c.requires.fitting in
    tables_within tables counted (length seen) (members_view c.loop-table.members.entries) size (omega arith) c.loop-table.invariant
