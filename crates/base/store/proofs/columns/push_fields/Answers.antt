use Rattle.std.proofs.Common.{◌∙◌, [], ◌∷◌, ◌++◌, length, take, sym, ap, arith}
use Rattle.csv.specs.Records.{fields_of}
use Rattle.std.proofs.lemmas.List.{length-take-le, set-get_or}
use Rattle.store.specs.StoredColumns.{kind_of}
use Rattle.store.specs.declared.cells.ColumnCells.{ColumnCells}
use Rattle.store.proofs.ColumnRows.{kinds_of, kinds_stay, kind_there, as_many, length_with_row, with_nothing, value_pushed}
use Rattle.store.proofs.ReadRecords.{field_past, field_fails, stand_long, stands_next}
use Rattle.store.proofs.columns.push_fields.Goals as goal

pub loop-place-init : goal.loop-place-init
loop-place-init c = ([], tt, sym (with_nothing c.args.columns.now))

pub push-pushed-requires : goal.push-pushed-requires
push-pushed-requires c =
    let (row, stands, is) = c.loop-place.invariant in
    let same = ap kinds_of is ∙ kinds_stay c.args.columns.now row ∙ c.requires in
    ap (λ (x : ColumnCells). kind_of x.entries) (sym c.index-columns-place.is)
    ∙ kind_there c.loop-place.columns c.args.entry.now c.loop-place.place c.index-columns-place.result c.index-entry-place.result same (omega arith) c.index-columns-place.is c.index-entry-place.is

pub returns-in-None-clause-read : goal.returns-in-None-clause-read
returns-in-None-clause-read c = let h = field_past (fields_of c.args.fields.now) c.loop-place.place c.in-None.ensures.value in absurd (omega arith)

pub returns-in-None-clause-err : goal.returns-in-None-clause-err
returns-in-None-clause-err c = let h = field_past (fields_of c.args.fields.now) c.loop-place.place c.in-None.ensures.value in absurd (omega arith)

pub returns-in-Err-clause-read : goal.returns-in-Err-clause-read
returns-in-Err-clause-read c =
    let (row, stands, is) = c.loop-place.invariant in
    rw c.cause_at.ensures (field_fails c.args.entry.now (fields_of c.args.fields.now) c.loop-place.place row c.index-entry-place.result c.in-Some.field.now c.in-Err.fault (omega arith) (omega arith) c.index-entry-place.is c.in-Some.ensures.value stands c.in-Err.ensures.read)

pub returns-in-Err-clause-err : goal.returns-in-Err-clause-err
returns-in-Err-clause-err c =
    let (row, stands, is) = c.loop-place.invariant in
    let long = stand_long (take c.loop-place.place c.args.entry.now) (take c.loop-place.place (fields_of c.args.fields.now)) row stands in
    c.take_back.ensures c.args.columns.now row (rw c.in-Err.ensures.err (set-get_or c.loop-place.columns c.loop-place.place c.index-columns-place.result ∙ is)) (long ∙ length-take-le c.loop-place.place c.args.entry.now (omega arith))

pub loop-place-preserved : goal.loop-place-preserved
loop-place-preserved c =
    let (row, stands, is) = c.loop-place.invariant in
    let (v, stand, more) = c.in_default.ensures.read in
    let long = stand_long (take c.loop-place.place c.args.entry.now) (take c.loop-place.place (fields_of c.args.fields.now)) row stands ∙ length-take-le c.loop-place.place c.args.entry.now (omega arith) in
    let many = as_many c.args.columns.now c.args.entry.now c.requires in
    let size = ap length is ∙ length_with_row c.args.columns.now row in (
      row ++ v ∷ [],
      stands_next c.args.entry.now (fields_of c.args.fields.now) c.loop-place.place row c.index-entry-place.result v c.in-Some.field.now (omega arith) c.index-entry-place.is c.in-Some.ensures.value stands stand,
      value_pushed c.args.columns.now row c.loop-place.columns c.loop-place.place c.index-columns-place.result c.push-pushed.new.self v long (omega (arith, many, size)) is c.index-columns-place.is more,
    )
