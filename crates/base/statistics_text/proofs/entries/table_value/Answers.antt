use Rattle.std.proofs.Common.{◌≡◌, codes, refl, ◌∙◌}
use Rattle.serde_json.specs.Data.{array, object, put}
use Rattle.serde_json.specs.View.{view, items_view, members_view}
use Rattle.serde_json.specs.declared.value.Value.{Object}
use Rattle.serde_json.proofs.Views.{view-Array, view-Object, members_len-members_view}
use Rattle.schema.specs.Each.{Pairs}
use Rattle.statistics.specs.Spelling.{AreColumnsText}
use Rattle.statistics_text.specs.Nesting.{IsWithin}
use Rattle.statistics_text.proofs.Parts.{IsIndexValue, indexes_within, none_counted, counts, table_within, known_within}
use Rattle.statistics_text.proofs.entries.table_value.Goals as goal

pub returns-then-is_empty : goal.returns-then-is_empty
returns-then-is_empty c =
    let table = c.args.table.now in
    let counted = c.args.counted.now in
    let items = c.in_ok-indexes.indexes.items in
    let pairs : Pairs IsIndexValue items counted.indexes = rw c.as_slice.ensures at c.in_ok-indexes.ensures in
    let known = members_view c.in_ok-known.known.entries in
    let text : IsWithin 2 (λ d. AreColumnsText table.columns d counted.column_keys) (object known) = rw (c.as_slice-2.ensures, c.as_slice-3.ensures) at c.in_ok-known.ensures in
    let none = none_counted table.columns counted.column_keys known c.requires.fitting.columns text.0 (members_len-members_view c.in_ok-known.known.entries ∙ c.is_empty.ensures.0 c.if-is_empty.true) in
    rw (view-Object c.put-3.new.map, c.in_ok-put-3.ensures.ok, c.in_ok-put-2.ensures.ok, c.in_ok-put.ensures.ok, c.new-members.ensures.empty, view-Array c.in_ok-indexes.indexes, c.from.ensures, c.from-2.ensures)
    (table_within table counted c.requires.fitting (array (items_view items)) (indexes_within items counted.indexes pairs) none)

pub returns : goal.returns
returns c =
    let table = c.args.table.now in
    let counted = c.args.counted.now in
    let items = c.in_ok-indexes.indexes.items in
    let pairs : Pairs IsIndexValue items counted.indexes = rw c.as_slice.ensures at c.in_ok-indexes.ensures in
    let known = members_view c.in_ok-known.known.entries in
    let text : IsWithin 2 (λ d. AreColumnsText table.columns d counted.column_keys) (object known) = rw (c.as_slice-2.ensures, c.as_slice-3.ensures) at c.in_ok-known.ensures in
    let indexes = array (items_view items) in
    let is : view (Object c.put-4.new.map) ≡ object (put (codes "columns") (object known) (counts counted indexes)) =
    rw (view-Object c.put-4.new.map, c.in_ok-put-4.ensures.ok, view-Object c.in_ok-known.known, c.in_ok-put-3.ensures.ok, c.in_ok-put-2.ensures.ok, c.in_ok-put.ensures.ok, c.new-members.ensures.empty, view-Array c.in_ok-indexes.indexes, c.from.ensures, c.from-2.ensures) refl in
    rw is
    (known_within table counted c.requires.fitting indexes (indexes_within items counted.indexes pairs) (object known) text)
