-- What is read is spelt by the bytes.
use Rattle.std.proofs.Common.{◌≡◌, ℕ, List, length, Bool, true, false, cond, Option, Some, None, Result, Ok, Err, IfOk, refl, sym, ap, ◌∙◌, subst, codes, ◌==◌, inl, inr}
use Rattle.std.specs.List.{count_by}
use Rattle.std.specs.Option.{is_some}
use Rattle.std.proofs.lemmas.Bool.{eqb-true}
use Rattle.serde_json.specs.Data.{Data, Items}
use Rattle.serde_json.specs.Find.{get, as_array}
use Rattle.values.specs.declared.fault.Fault.{Fault}
use Rattle.values.specs.Faults.{Gives}
use Rattle.values.proofs.Results.{both_ok, wanted_ok, wanted_if_ok}
use Rattle.schema.specs.Names.{Name}
use Rattle.json_parts.specs.Parts.{list_of}
use Rattle.json_parts.specs.Spelling.{HasKeys, HasMember}
use Rattle.json_parts.proofs.Reading.{keys_spelt, json_spelt}
use Rattle.schema.specs.Spelling.{IsArray}
use Rattle.schema.specs.declared.schema.Column.{Column}
use Rattle.schema.specs.declared.schema.Table.{Table}
use Rattle.schema.specs.declared.schema.Schema.{Schema}
use Rattle.schema.proofs.Steps.{each_ok, pairs_length}
use Rattle.schema.proofs.Spelled.{ok_same, pairs_map}
use Rattle.statistics.specs.declared.counts.IndexStatistics.{IndexStatistics}
use Rattle.statistics.specs.declared.counts.TableStatistics.{TableStatistics}
use Rattle.statistics.specs.declared.counts.Statistics.{Statistics}
use Rattle.statistics.specs.declared.fault.StatisticsRefusal.{StatisticsRefusal}
use Rattle.statistics.specs.declared.fault.StatisticsRefusal.TheVariants.{NotJson, Shape}
use Rattle.statistics.specs.Entries.{wanted, json_in, keys_in, member_in, number_in, items_in, index_in, indexes_in, known_at, column_in, each_column, known_in, none_known, is_object_of, fourth_in, column_keys_in, table_in, named_in, tables_in}
use Rattle.statistics.specs.Reading.{statistics_of}
use Rattle.statistics.proofs.ItemCounts.{object_counted}
use Rattle.statistics.specs.Spelling.{HasNumber, IsIndexText, IsColumnText, AreColumnsText, HasColumns, IsTableText, AreTablesText, IsStatisticsText}

number_spelt : (key : Name) (d : Data) (n : ℕ) → number_in key d ≡ Ok n → HasNumber key n d
unfolding number_in
number_spelt key d n e =
    let (m, p, q) = both_ok (member_in key d) _ n e in
    (m, wanted_ok Shape _ m p, wanted_ok Shape _ n q)

index_spelt : (d : Data) (i : IndexStatistics) → index_in d ≡ Ok i → IsIndexText d i
unfolding index_in
index_spelt d i e =
    let (members, p0, q0) = both_ok (keys_in 2 d) _ i e in
    let (keys, p1, q1) = both_ok (number_in (codes "keys") d) _ i q0 in
    let (pages, p2, q2) = both_ok (number_in (codes "pages") d) _ i q1 in
    let made : IsIndexText d (record { keys = keys; pages = pages }) = record {
      members = keys_spelt Shape 2 d members p0;
      keys = number_spelt (codes "keys") d keys p1;
      pages = number_spelt (codes "pages") d pages p2;
    } in
    subst (IsIndexText d) (ok_same _ i q2) made

items_spelt : (n : ℕ) (d : Data) (ds : List Data) → items_in n d ≡ Ok ds → (items : Items) × (as_array d ≡ Some items) × (list_of items ≡ ds) × (length ds ≡ n)
unfolding items_in
items_spelt n d ds e =
    let (items, p, q) = both_ok (wanted (as_array d)) _ ds e in
    let r = wanted_if_ok Shape (length (list_of items) == n) (list_of items) ds q in
    (items, wanted_ok Shape (as_array d) items p, r.1, ap length (sym r.1) ∙ eqb-true (length (list_of items)) n r.0)

indexes_spelt : (n : ℕ) (d : Data) (is : List IndexStatistics) → indexes_in n d ≡ Ok is → HasMember (codes "indexes") (λ m. IsArray IsIndexText m is) d × (length is ≡ n)
unfolding indexes_in
indexes_spelt n d is e =
    let (m, p0, q0) = both_ok (member_in (codes "indexes") d) _ is e in
    let (ds, p1, q1) = both_ok (items_in n m) _ is q0 in
    let (items, array, same, size) = items_spelt n m ds p1 in
    let pairs = each_ok index_in ds is q1 in
    ((m, wanted_ok Shape _ m p0, (items, array, rw same (pairs_map index_spelt ds is pairs))), sym (pairs_length _ ds is pairs) ∙ size)

column_spelt : (d : Data) (c : Column) (keys : Option ℕ) → column_in d c ≡ Ok keys → IsColumnText d c keys
unfolding column_in
column_spelt d c keys e = at (get c.name d) refl e
  where
    at : (o : Option Data) → get c.name d ≡ o → known_at o ≡ Ok keys → IsColumnText d c keys
    at None is e = let same : ◌≡◌ {A = Option ℕ} None keys = ok_same None keys e in subst (IsColumnText d c) same is
    at (Some m) is e =
        let (one, p0, q0) = both_ok (keys_in 1 m) _ keys e in
        let (n, p1, q1) = both_ok (number_in (codes "keys") m) _ keys q0 in
        let made : IsColumnText d c (Some n) = (m, is, (keys_spelt Shape 1 m one p0, number_spelt (codes "keys") m n p1)) in
        subst (IsColumnText d c) (ok_same _ keys q1) made

known_spelt : (columns : List Column) (d : Data) (keys : List (Option ℕ)) → known_in columns d ≡ Ok keys → AreColumnsText columns d keys
unfolding known_in
known_spelt columns d keys e =
    let (read, p0, q0) = both_ok (each_column d columns) _ keys e in
    let (members, p1, q1) = both_ok (keys_in (count_by is_some read) d) _ keys q0 in
    let made : AreColumnsText columns d read = record {
      members = keys_spelt Shape (count_by is_some read) d members p1;
      each = pairs_map (column_spelt d) columns read (each_ok (column_in d) columns read p0);
    } in
    subst (AreColumnsText columns d) (ok_same _ keys q1) made

fourth_spelt : (columns : List Column) (d : Data) (keys : List (Option ℕ)) → fourth_in columns d ≡ Ok keys → HasKeys 4 d × HasMember (codes "columns") (λ m. AreColumnsText columns m keys) d
unfolding fourth_in
fourth_spelt columns d keys e =
    let (four, p0, q0) = both_ok (keys_in 4 d) _ keys e in
    let (m, p1, q1) = both_ok (member_in (codes "columns") d) _ keys q0 in
    (keys_spelt Shape 4 d four p0, (m, wanted_ok Shape _ m p1, known_spelt columns m keys q1))

column_keys_spelt : (columns : List Column) (d : Data) (keys : List (Option ℕ)) → column_keys_in columns d ≡ Ok keys → HasColumns columns keys d
unfolding column_keys_in
column_keys_spelt columns d keys e = at (is_object_of 3 d) refl e
  where
    at : (b : Bool) → is_object_of 3 d ≡ b → cond b (Ok (none_known columns)) (fourth_in columns d) ≡ Ok keys → HasColumns columns keys d
    at true is e = inl (object_counted 3 d is, sym (ok_same _ keys e))
    at false is e = inr (fourth_spelt columns d keys e)

table_spelt : (table : Table) (d : Data) (t : TableStatistics) → table_in table d ≡ Ok t → IsTableText table d t
unfolding table_in
table_spelt table d t e =
    let (rows, p0, q0) = both_ok (number_in (codes "rows") d) _ t e in
    let (pages, p1, q1) = both_ok (number_in (codes "pages") d) _ t q0 in
    let (indexes, p2, q2) = both_ok (indexes_in (length table.indexes) d) _ t q1 in
    let (column_keys, p3, q3) = both_ok (column_keys_in table.columns d) _ t q2 in
    let listed = indexes_spelt (length table.indexes) d indexes p2 in
    let made : IsTableText table d (record { rows = rows; pages = pages; indexes = indexes; column_keys = column_keys }) = record {
      rows = number_spelt (codes "rows") d rows p0;
      pages = number_spelt (codes "pages") d pages p1;
      indexes = listed.0;
      each = listed.1;
      columns = column_keys_spelt table.columns d column_keys p3;
    } in
    subst (IsTableText table d) (ok_same _ t q3) made

named_spelt : (d : Data) (table : Table) (t : TableStatistics) → named_in d table ≡ Ok t → HasMember table.name (λ m. IsTableText table m t) d
unfolding named_in
named_spelt d table t e =
    let (m, p, q) = both_ok (member_in table.name d) _ t e in
    (m, wanted_ok Shape _ m p, table_spelt table m t q)

tables_spelt : (tables : List Table) (d : Data) (ts : List TableStatistics) → tables_in tables d ≡ Ok ts → HasKeys 1 d × HasMember (codes "tables") (λ m. AreTablesText tables m ts) d
unfolding tables_in
tables_spelt tables d ts e =
    let (one, p0, q0) = both_ok (keys_in 1 d) _ ts e in
    let (m, p1, q1) = both_ok (member_in (codes "tables") d) _ ts q0 in
    let (members, p2, q2) = both_ok (keys_in (length tables) m) _ ts q1 in
    let made : AreTablesText tables m ts = record {
      members = keys_spelt Shape (length tables) m members p2;
      each = pairs_map (named_spelt m) tables ts (each_ok (named_in m) tables ts q2);
    } in
    (keys_spelt Shape 1 d one p0, (m, wanted_ok Shape _ m p1, made))

statistics_spelt : (schema : Schema) (bytes : List ℕ) (s : Statistics) → statistics_of schema bytes ≡ Ok s → IsStatisticsText schema bytes s
unfolding statistics_of
statistics_spelt schema bytes s e =
    let (d, p0, q0) = both_ok (json_in bytes) _ s e in
    let (tables, p1, q1) = both_ok (tables_in schema.tables d) _ s q0 in
    let text = json_spelt NotJson bytes d p0 in
    let listed = tables_spelt schema.tables d tables p1 in
    let made : IsStatisticsText schema bytes (record { tables = tables }) = record {
      text = text.0;
      value = d;
      json = text.1;
      members = listed.0;
      tables = listed.1;
    } in
    subst (IsStatisticsText schema bytes) (ok_same _ s q1) made

-- so what a call gives that gives what is read is spelt
pub given_spelt : (schema : Schema) (bytes : List ℕ) (result : Result Statistics (Fault StatisticsRefusal)) → Gives (λ x. x) result (statistics_of schema bytes) → IfOk result (IsStatisticsText schema bytes)
given_spelt schema bytes (Ok s) h = statistics_spelt schema bytes s h
given_spelt schema bytes (Err e) h = tt
