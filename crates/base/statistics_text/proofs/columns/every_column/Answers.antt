use Rattle.std.proofs.Common.{◌≡◌, ℕ, ◌<◌, List, ◌++◌, length, get_or, flat_map, ap, sym, ◌∙◌, zero-add, arith}
use Rattle.std.specs.List.{enumerate_from}
use Rattle.std.proofs.lemmas.List.{take_all}
use Rattle.std.proofs.lemmas.List.FromFn.{length-enumerate_from, get_or-enumerate_from}
use Rattle.values.proofs.Lists.{flat_map_next}
use Rattle.schema.specs.declared.schema.Table.{Table}
use Rattle.statistics.specs.declared.counts.TableColumn.{TableColumn}
use Rattle.statistics_text.specs.Columns.{table_columns}
use Rattle.statistics_text.proofs.columns.every_column.Goals as goal

pub loop-number-preserved : goal.loop-number-preserved
loop-number-preserved c =
    let columns : ℕ × Table → List TableColumn = λ t. table_columns t.0 t.1 in
    let tables = c.as_slice-table-items.result.now in
    let number = c.loop-number.number in
    let table = c.table-item.result in
    let size = length-enumerate_from 0 tables in
    let below : number < length tables = omega arith in
    let is : (number, table) ≡ get_or (enumerate_from 0 tables) number (number, table) =
    sym (get_or-enumerate_from 0 tables number (number, table) below ∙ ap (λ n. (n, get_or tables number table)) (zero-add number) ∙ ap (λ t. (number, t)) (sym c.table-item.is)) in
    c.in_ok-push_columns.ensures ∙ ap (λ (done : List TableColumn). done ++ table_columns number table) c.loop-number.invariant ∙ sym (flat_map_next columns (enumerate_from 0 tables) number (number, table) (omega arith) is)

pub returns : goal.returns
returns c =
    let columns : ℕ × Table → List TableColumn = λ t. table_columns t.0 t.1 in
    let tables = c.as_slice-table-items.result.now in
    let size = length-enumerate_from 0 tables in
    c.loop-number.invariant ∙ ap (flat_map columns) (take_all c.loop-number.number (enumerate_from 0 tables) (omega arith)) ∙ ap (λ (ts : List Table). flat_map columns (enumerate_from 0 ts)) c.as_slice-table-items.ensures
