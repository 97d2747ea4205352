use Rattle.std.proofs.Common.{◌≡◌, ◌∙◌, true, false, List, ℕ, bytes_eq, get_or, sym, ap, arith}
use Rattle.std.proofs.lemmas.Bool.{not-true, not-false}
use Rattle.csv.specs.Records.{fields_of}
use Rattle.schema.specs.declared.schema.Column.{Column}
use Rattle.store.proofs.ReadRecords.{field_past, other_name, same_name}
use Rattle.store.proofs.records.is_header.Goals as goal

name_of : (cs : List Column) (i : ℕ) (c : Column) → c ≡ get_or cs i c → (get_or cs i c).name ≡ c.name
name_of cs i c at = ap (λ (x : Column). x.name) (sym at)

pub returns-in_default : goal.returns-in_default
returns-in_default c = let h = field_past (fields_of c.args.fields.now) c.loop-place.place c.in_default.ensures.value in absurd (omega arith)

pub returns-then-ne : goal.returns-then-ne
returns-then-ne c =
    let same = c.as_bytes.ensures.value ∙ c.as_str-name.ensures ∙ name_of c.args.columns.now c.loop-place.place c.index-columns-place.result c.index-columns-place.is in
    let other : bytes_eq c.in-Some.field.now c.index-columns-place.result.name ≡ false = not-true _ (rw (← same) (sym c.ne.ensures ∙ c.if-ne.true)) in
    (λ t. cc t, λ e. absurd (other_name c.args.columns.now (fields_of c.args.fields.now) c.loop-place.place c.index-columns-place.result c.in-Some.field.now (omega arith) c.index-columns-place.is c.in-Some.ensures.value other e))

pub loop-place-preserved : goal.loop-place-preserved
loop-place-preserved c =
    let same = c.as_bytes.ensures.value ∙ c.as_str-name.ensures ∙ name_of c.args.columns.now c.loop-place.place c.index-columns-place.result c.index-columns-place.is in
    let eq : bytes_eq c.in-Some.field.now c.index-columns-place.result.name ≡ true = not-false _ (rw (← same) (sym c.ne.ensures ∙ c.if-ne.false)) in
    same_name c.args.columns.now (fields_of c.args.fields.now) c.loop-place.place c.index-columns-place.result c.in-Some.field.now (omega arith) c.index-columns-place.is c.in-Some.ensures.value eq c.loop-place.invariant
