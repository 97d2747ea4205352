use Rattle.std.proofs.Common.{◌≡◌, refl, ap, sym, ◌∙◌, ◌<◌, ◌≤◌, ◌+◌, ◌++◌, ◌∷◌, [], ℕ, inl, inr, List, get_or, length, map, set, arith}
use Rattle.std.proofs.lemmas.Bool.{cases_eq}
use Rattle.std.proofs.lemmas.List.{get_or-map, get_or-set_same, get_or-set_other, length-map, length-set, map-set}
use Rattle.values.specs.declared.value.Value.{Value}
use Rattle.values.specs.declared.value.Value.TheVariants.{Null}
use Rattle.values.specs.Cells.{value_of}
use Rattle.relations.specs.declared.row_columns.RowColumn.{RowColumn}
use Rattle.relations.specs.MadeColumns.{made_values}
use Rattle.relations.specs.RowColumns.{column_value}
use Rattle.grouping.specs.declared.group_hashes.GroupHashes.{GroupHashes}
use Rattle.grouping.specs.KeyBuckets.{column_key}
use Rattle.grouping.specs.KeyTables.{kept_columns}
use Rattle.grouping.proofs.FoundGroups.{hashed-more}
use Rattle.grouping.proofs.KeyColumns.{keys-more}
use Rattle.grouping.proofs.key_table.KeyTable.push.Goals as goal

pub loop-place-init : goal.loop-place-init
loop-place-init g c = record {
  width = c.requires.0.width_is;
  put = λ place below. absurd (omega (arith, below));
  left = λ place past. refl;
  hashes = refl;
}

pub loop-place-preserved : goal.loop-place-preserved
loop-place-preserved g c =
    let columns = c.args.columns.now in
    let i = c.loop-place.place in
    let old = c.loop-place.self.columns.items in
    let key = column_key columns c.args.row in
    let made = c.index_mut.result.now in
    let values : List (List Value) = map made_values old in
    let more : List Value = made_values c.push.new.self in
    let inv = c.loop-place.invariant in
    let within : i < length values = let width = inv.width in omega (arith, length-map old made_values, width) in
    let is : map made_values (set old i c.push.new.self) ≡ set values i more = map-set made_values old i c.push.new.self in
    let value = c.cell.ensures ∙ ap (λ (column : RowColumn). column_value column c.args.row) c.index-columns-place.is ∙ sym (get_or-map (λ (column : RowColumn). column_value column c.args.row) columns i c.index-columns-place.result Null (omega arith)) in
    let before : made_values made ≡ get_or (kept_columns c.args.self.now) i [] = ap made_values c.index_mut.ensures.value ∙ sym (get_or-map made_values old i made [] (omega (arith, within, length-map old made_values))) ∙ inv.left i (omega arith) in
    record {
      width = length-set old i c.push.new.self ∙ inv.width;
      put = λ place below. elim (cases_eq place i) [
        | inl same ↦ rw same (ap (λ l. get_or l i []) is ∙ get_or-set_same values i more [] within ∙ c.in_ok-push.ensures ∙ ap (λ l. l ++ value_of c.cell.result ∷ []) before ∙ ap (λ v. get_or (kept_columns c.args.self.now) i [] ++ v ∷ []) value)
        | inr off ↦ ap (λ l. get_or l place []) is ∙ get_or-set_other values i place more [] off ∙ inv.put place (omega (arith, below, off))
      ];
      left = λ place past. ap (λ l. get_or l place []) is ∙ get_or-set_other values i place more [] (λ e. omega (arith, e, past)) ∙ inv.left place (omega (arith, past));
      hashes = inv.hashes;
    }

pub returns : goal.returns
returns g c =
    let columns = c.args.columns.now in
    let key = column_key columns c.args.row in
    let inv = c.loop-place.invariant in
    let kept = c.loop-place.self in
    keys-more (length columns) g.keys key c.args.self.now _ c.requires.0 (length-map columns (λ (column : RowColumn). column_value column c.args.row)) inv.width (λ place below. inv.put place (omega (arith, below)))
    (hashed-more g.keys key c.args.hash c.args.self.now.hashes _ c.requires.0.hashed c.requires.1 (c.in_ok-push-2.ensures.hashes ∙ ap (λ (h : GroupHashes). h.hashes.items ++ c.args.hash ∷ []) inv.hashes) c.in_ok-push-2.ensures.chained)
