use Rattle.std.proofs.Common.{◌≡◌, ◌∙◌, ◌+◌, ◌<◌, ◌^◌, ◌++◌, ◌∷◌, [], List, length, map, sym, ap, subst, rules, arith}
use Rattle.std.specs.List.{AllByRecursion}
use Rattle.csv.specs.Records.{fields_of}
use Rattle.schema.specs.declared.schema.Column.{Column}
use Rattle.store.specs.StoredColumns.{Kept, HasCells, TakeRow, rows_of}
use Rattle.store.specs.declared.cells.ColumnCells.{ColumnCells}
use Rattle.store.proofs.ColumnRows.{kinds_of, items_more, all_more, kept_more, length_rows}
use Rattle.store.proofs.ReadRecords.{take_row}
use Rattle.store.proofs.columns.ColumnStore.push.Goals as goal

pub overflow_add-self : goal.overflow_add-self
overflow_add-self c =
    let size : c.self.inside.count ≡ length c.args.self.now.rows = sym (length_rows c.self.inside.columns.items c.self.inside.count) ∙ ap (λ (k : Kept). length k.rows) c.self.view_is in
    let few = c.requires.few in
    let fits : c.self.inside.count + 1 < 2 ^ 64 = omega arith in
    search rules

pub invariant_of-self-2 : goal.invariant_of-self-2
invariant_of-self-2 c =
    let (row, stands, is) = c.in_ok-push_fields.ensures.read in
    let cs = c.self.inside.columns.items in
    let kinds : kinds_of cs ≡ map (λ (x : Column). x.kind) c.args.entry.now = ap (λ (k : Kept). k.kinds) c.self.view_is ∙ c.requires.kinds in
    let takes : TakeRow (kinds_of cs) row = rw kinds (take_row c.args.entry.now (fields_of c.args.fields.now) row stands) in
    let items = items_more c.self.inside.columns c.push_fields.new.columns c.as_mut_slice.result.now row c.as_mut_slice.ensures.value is in
    subst (λ (xs : List ColumnCells). AllByRecursion (HasCells (c.self.inside.count + 1)) xs) (sym items) (all_more c.self.inside.count cs row takes c.self.invariant)

pub returns-clause-read : goal.returns-clause-read
returns-clause-read c =
    let (row, stands, is) = c.in_ok-push_fields.ensures.read in
    let n = c.self.inside.count in
    let cs = c.self.inside.columns.items in
    let kinds : kinds_of cs ≡ map (λ (x : Column). x.kind) c.args.entry.now = ap (λ (k : Kept). k.kinds) c.self.view_is ∙ c.requires.kinds in
    let takes : TakeRow (kinds_of cs) row = rw kinds (take_row c.args.entry.now (fields_of c.args.fields.now) row stands) in
    let items = items_more c.self.inside.columns c.push_fields.new.columns c.as_mut_slice.result.now row c.as_mut_slice.ensures.value is in (
      row,
      stands,
      ap (λ (xs : List ColumnCells). let k : Kept = record { kinds = kinds_of xs; rows = rows_of xs (n + 1) } in k) items
          ∙ kept_more n cs row c.self.invariant takes
          ∙ ap (λ (k : Kept). let t : Kept = record { kinds = k.kinds; rows = k.rows ++ row ∷ [] } in t) c.self.view_is,
    )
