use Rattle.std.proofs.Common.{refl}
use Rattle.serde_json.specs.Data.{object}
use Rattle.serde_json.specs.View.{view, members_view}
use Rattle.serde_json.specs.declared.value.Value.{Object}
use Rattle.serde_json.proofs.Views.{view-Object}
use Rattle.statistics.specs.Spelling.{AreTablesText}
use Rattle.statistics_text.specs.Nesting.{IsWithin}
use Rattle.statistics_text.proofs.Texts.{written}
use Rattle.statistics_text.proofs.writing.write.Goals as goal

pub returns : goal.returns
returns c =
    let schema = c.args.schema.now in
    let statistics = c.args.statistics.now in
    let tables = object (members_view c.in_ok-tables.tables.entries) in
    let text : IsWithin 4 (λ m. AreTablesText schema.tables m statistics.tables) tables = rw (c.as_slice.ensures, c.as_slice-2.ensures) at c.in_ok-tables.ensures in
    written schema statistics (view (Object c.put.new.map)) tables (rw (view-Object c.put.new.map, c.in_ok-put.ensures.ok, c.new-members.ensures.empty, view-Object c.in_ok-tables.tables) refl) text c.to_string.result c.to_string.ensures.reads_back
