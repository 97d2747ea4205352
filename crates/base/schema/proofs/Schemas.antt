-- What is read is a schema.
use Rattle.std.proofs.Common.{◌≡◌, ℕ, suc, ◌<◌, ◌≤◌, ◌&&◌, ◌==◌, List, [], ◌∷◌, length, get_or, slice_index_or, map, true, false, Result, Ok, Err, refl, sym, ap, ◌∙◌, subst, arith, nat_le, codes}
use Rattle.std.proofs.lemmas.Bool.{leb-true, and_parts}
use Rattle.std.proofs.lemmas.Bool.Decides.{nat_tests}
use Rattle.serde_json.specs.Find.{as_str}
use Rattle.std.proofs.lemmas.List.{length-map, get_or-map}
use Rattle.std.specs.List.{AllByRecursion, list_all}
use Rattle.serde_json.specs.Data.{Data}
use Rattle.values.proofs.Results.{both_ok, wanted_ok, wanted_if_ok}
use Rattle.schema.specs.declared.fault.SchemaRefusal.{SchemaRefusal}
use Rattle.schema.specs.declared.fault.SchemaRefusal.TheVariants.{Shape, UnknownColumn}
use Rattle.schema.specs.declared.schema.Column.{Column}
use Rattle.schema.specs.declared.schema.Table.{Table}
use Rattle.schema.specs.declared.entries.TableEntry.{TableEntry}
use Rattle.schema.specs.Each.{each, Pairs}
use Rattle.schema.specs.Names.{Name, is_name, are_different}
use Rattle.schema.specs.Entries.{wanted, json_in, keys_in, field_in, member_flag, member_kind, name_in, member_name, names_in, column_in, columns_in, lists_in, table_in, tables_in, entries_in, some_of, items_in, member_items}
use Rattle.schema.specs.Limits.{is_short, lists_are_few, parts_are_few, are_few, lists_differ, parts_differ, names_differ}
use Rattle.schema.specs.Places.{place_in, places_in, placed}
use Rattle.schema.specs.Schemas.{AreDifferent, IsColumnList, AreLists, IsTable, IsSchema}
use Rattle.schema.proofs.Steps.{each_ok, pairs_length, pairs_at, pairs_right, place_ok, different_ok}

-- ---- entries

pub some_ok : {A : Type 0} (xs ys : List A) → some_of xs ≡ Ok ys → (0 < length xs) × (xs ≡ ys)
some_ok [] ys e = cc e
some_ok (x ∷ xs) ys e = let z : (suc (length xs) == 0) ≡ false = grind (arith, nat_tests) in (omega arith, cc (rw z at e))

name_ok : (d : Data) (name : Name) → name_in d ≡ Ok name → is_name name ≡ true
unfolding name_in
name_ok d name e =
    let (text, p, q) = both_ok (wanted (as_str d)) _ name e in
    let r = wanted_if_ok Shape (is_name text) text name q in
    rw (← r.1) r.0

-- the names of a list as it was read
names_ok : (d : Data) (names : List Name) → names_in d ≡ Ok names → 0 < length names
unfolding names_in
names_ok d names e =
    let (ds, p, q) = both_ok (items_in d) _ names e in
    let (read, u, v) = both_ok (each name_in ds) _ names q in
    let r = some_ok read names v in
    rw (← r.1) r.0

member_name_ok : (d : Data) (name : Name) → member_name d ≡ Ok name → is_name name ≡ true
unfolding member_name
member_name_ok d name e =
    let (m, p, q) = both_ok (field_in (codes "name") d) _ name e in
    name_ok m name q

lists_ok : (key : Name) (d : Data) (lists : List (List Name)) → lists_in key d ≡ Ok lists → AllByRecursion (λ names. 0 < length names) lists
unfolding lists_in
lists_ok key d lists e =
    let (ds, p, q) = both_ok (member_items key d) _ lists e in
    pairs_right names_ok ds lists (each_ok names_in ds lists q)

column_ok : (d : Data) (c : Column) → column_in d ≡ Ok c → is_name c.name ≡ true
unfolding column_in
column_ok d c e =
    let (keys, p0, q0) = both_ok (keys_in 3 d) _ c e in
    let (name, p1, q1) = both_ok (member_name d) _ c q0 in
    let (kind, p2, q2) = both_ok (member_kind d) _ c q1 in
    let (flag, p3, q3) = both_ok (member_flag (codes "not_null") d) _ c q2 in
    let same : name ≡ c.name = ap (λ (x : Result Column SchemaRefusal). elim x [ Ok y ↦ y.name | Err z ↦ [] ]) q3 in
    rw (← same) (member_name_ok d name p1)

columns_ok : (d : Data) (columns : List Column) → columns_in d ≡ Ok columns → (0 < length columns) × AllByRecursion (λ c. is_name c.name ≡ true) columns
unfolding columns_in
columns_ok d columns e =
    let (ds, p, q) = both_ok (member_items (codes "columns") d) _ columns e in
    let (read, u, v) = both_ok (each column_in ds) _ columns q in
    let r = some_ok read columns v in
    let named = pairs_right {Q = λ c. is_name c.name ≡ true} column_ok ds read (each_ok column_in ds read u) in
    (rw (← r.1) r.0, subst (AllByRecursion (λ c. is_name c.name ≡ true)) r.1 named)

record IsEntry (t : TableEntry) : Type 0 where
  named : is_name t.name ≡ true
  some : 0 < length t.columns
  columns_named : AllByRecursion (λ c. is_name c.name ≡ true) t.columns
  unique : AllByRecursion (λ names. 0 < length names) t.unique
  indexes : AllByRecursion (λ names. 0 < length names) t.indexes

table_ok : (d : Data) (t : TableEntry) → table_in d ≡ Ok t → IsEntry t
unfolding table_in
table_ok d t e =
    let (keys, p0, q0) = both_ok (keys_in 4 d) _ t e in
    let (name, p1, q1) = both_ok (member_name d) _ t q0 in
    let (columns, p2, q2) = both_ok (columns_in d) _ t q1 in
    let (unique, p3, q3) = both_ok (lists_in (codes "unique") d) _ t q2 in
    let (indexes, p4, q4) = both_ok (lists_in (codes "indexes") d) _ t q3 in
    let c = columns_ok d columns p2 in
    let whole : IsEntry (record { name = name; columns = columns; unique = unique; indexes = indexes }) = record { named = member_name_ok d name p1; some = c.0; columns_named = c.1; unique = lists_ok (codes "unique") d unique p3; indexes = lists_ok (codes "indexes") d indexes p4 } in
    subst IsEntry (cc q4) whole

entries_ok : (bytes : List ℕ) (ts : List TableEntry) → entries_in bytes ≡ Ok ts → AllByRecursion IsEntry ts
unfolding entries_in tables_in
entries_ok bytes ts e =
    let (d, p0, q0) = both_ok (json_in bytes) _ ts e in
    let (keys, p1, q1) = both_ok (keys_in 1 d) _ ts q0 in
    let (ds, p2, q2) = both_ok (member_items (codes "tables") d) _ ts q1 in
    pairs_right table_ok ds ts (each_ok table_in ds ts q2)

-- ---- places

list_whole : (columns : List Column) (names : List Name) (places : List ℕ) → each (place_in columns) names ≡ Ok places → 0 < length names → is_short names ≡ true → are_different (λ name. name) names ≡ true
    → IsColumnList (length columns) places
list_whole columns names places e some short differ =
    let pairs = each_ok (place_in columns) names places e in
    let size = pairs_length (λ name place. place_in columns name ≡ Ok place) names places pairs in
    let few = leb-true (length names) 8 short in
    let at = λ (i : ℕ) (lt : i < length places). (place_ok (λ (c : Column). c.name) columns (get_or names i []) (get_or places i 0) (wanted_ok UnknownColumn _ _ (pairs_at (λ name place. place_in columns name ≡ Ok place) names places i [] 0 lt pairs))).1 in
    record {
      some = omega arith;
      few = omega arith;
      below = pairs_right (λ name place is. (place_ok (λ (c : Column). c.name) columns name place (wanted_ok UnknownColumn _ _ is)).0) names places pairs;
      different = λ i j lt low same.
          let all = length-map names (λ (name : Name). name) in
          different_ok (λ (name : Name). name) names differ i j lt (omega arith)
          (get_or-map (λ (name : Name). name) names i [] [] (omega arith) ∙ sym (at i (omega arith)) ∙ ap (λ (p : ℕ). slice_index_or (map (λ (c : Column). c.name) columns) p []) same ∙ at j low ∙ sym (get_or-map (λ (name : Name). name) names j [] [] (omega arith)));
    }

lists_whole : (columns : List Column) (lists : List (List Name)) (places : List (List ℕ)) → Pairs (λ ns ps. each (place_in columns) ns ≡ Ok ps) lists places → AllByRecursion (λ names. 0 < length names) lists
    → list_all is_short lists ≡ true → lists_differ lists ≡ true → AllByRecursion (IsColumnList (length columns)) places
lists_whole columns [] [] h some short differ = tt
lists_whole columns [] (p ∷ ps) h some short differ = absurd h
lists_whole columns (n ∷ ns) [] h some short differ = absurd h
lists_whole columns (n ∷ ns) (p ∷ ps) h some short differ =
    let s = and_parts (is_short n) (list_all is_short ns) short in
    let d = and_parts (are_different (λ name. name) n) (lists_differ ns) differ in
    (list_whole columns n p h.0 some.0 s.0 d.0, lists_whole columns ns ps h.1 some.1 s.1 d.1)

are_lists : (columns : List Column) (lists : List (List Name)) (places : List (List ℕ)) → each (places_in columns) lists ≡ Ok places → AllByRecursion (λ names. 0 < length names) lists → lists_are_few lists ≡ true → lists_differ lists ≡ true
    → AreLists (length columns) places
are_lists columns lists places e some few differ =
    let pairs = each_ok (places_in columns) lists places e in
    let f = and_parts (nat_le (length lists) 16) (list_all is_short lists) few in
    let size = pairs_length (λ ns ps. each (place_in columns) ns ≡ Ok ps) lists places pairs in
    let most = leb-true (length lists) 16 f.0 in
    record { few = omega arith; each = lists_whole columns lists places pairs some f.1 differ }

-- ---- tables

pub record IsPlaced (t : TableEntry) (u : Table) : Type 0 where
  pub name_is : t.name ≡ u.name
  pub columns_are : t.columns ≡ u.columns
  pub unique_is : each (places_in t.columns) t.unique ≡ Ok u.unique
  pub indexes_are : each (places_in t.columns) t.indexes ≡ Ok u.indexes

pub placed_ok : (t : TableEntry) (u : Table) → placed t ≡ Ok u → IsPlaced t u
unfolding placed
placed_ok t u e =
    let (unique, p0, q0) = both_ok (each (places_in t.columns) t.unique) _ u e in
    let (indexes, p1, q1) = both_ok (each (places_in t.columns) t.indexes) _ u q0 in
    let whole : IsPlaced t (record { name = t.name; columns = t.columns; unique = unique; indexes = indexes }) = record { name_is = refl; columns_are = refl; unique_is = p0; indexes_are = p1 } in
    subst (IsPlaced t) (cc q1) whole

table_whole : (t : TableEntry) (u : Table) → IsPlaced t u → IsEntry t → parts_are_few t ≡ true → parts_differ t ≡ true → IsTable u
table_whole t u h e few differ =
    let g = and_parts (nat_le (length t.columns) 64 && lists_are_few t.unique) (lists_are_few t.indexes) few in
    let f = and_parts (nat_le (length t.columns) 64) (lists_are_few t.unique) g.0 in
    let k = and_parts (are_different (λ c. c.name) t.columns && lists_differ t.unique) (lists_differ t.indexes) differ in
    let d = and_parts (are_different (λ c. c.name) t.columns) (lists_differ t.unique) k.0 in
    record {
      named = subst (λ (n : Name). is_name n ≡ true) h.name_is e.named;
      some = subst (λ (cs : List Column). 0 < length cs) h.columns_are e.some;
      few = subst (λ (cs : List Column). length cs ≤ 64) h.columns_are (leb-true (length t.columns) 64 f.0);
      columns_named = subst (AllByRecursion (λ c. is_name c.name ≡ true)) h.columns_are e.columns_named;
      different = subst (λ (cs : List Column). AreDifferent (map (λ c. c.name) cs)) h.columns_are (different_ok (λ c. c.name) t.columns d.0);
      unique = subst (λ (cs : List Column). AreLists (length cs) u.unique) h.columns_are (are_lists t.columns t.unique u.unique h.unique_is e.unique f.1 d.1);
      indexes = subst (λ (cs : List Column). AreLists (length cs) u.indexes) h.columns_are (are_lists t.columns t.indexes u.indexes h.indexes_are e.indexes g.1 k.1);
    }

tables_whole : (ts : List TableEntry) (us : List Table) → Pairs (λ t u. placed t ≡ Ok u) ts us → AllByRecursion IsEntry ts → list_all parts_are_few ts ≡ true → list_all parts_differ ts ≡ true → AllByRecursion IsTable us
tables_whole [] [] h e few differ = tt
tables_whole [] (u ∷ us) h e few differ = absurd h
tables_whole (t ∷ ts) [] h e few differ = absurd h
tables_whole (t ∷ ts) (u ∷ us) h e few differ =
    let f = and_parts (parts_are_few t) (list_all parts_are_few ts) few in
    let d = and_parts (parts_differ t) (list_all parts_differ ts) differ in
    (table_whole t u (placed_ok t u h.0) e.0 f.0 d.0, tables_whole ts us h.1 e.1 f.1 d.1)

same_names : (ts : List TableEntry) (us : List Table) → Pairs (λ t u. placed t ≡ Ok u) ts us → map (λ t. t.name) ts ≡ map (λ u. u.name) us
same_names [] [] h = refl
same_names [] (u ∷ us) h = absurd h
same_names (t ∷ ts) [] h = absurd h
same_names (t ∷ ts) (u ∷ us) h =
    ap (λ (n : Name). n ∷ map (λ (x : TableEntry). x.name) ts) (placed_ok t u h.0).name_is ∙ ap (λ (ns : List Name). u.name ∷ ns) (same_names ts us h.1)

pub schema_whole : (bytes : List ℕ) (ts : List TableEntry) (us : List Table) → entries_in bytes ≡ Ok ts → are_few ts ≡ true → names_differ ts ≡ true → each placed ts ≡ Ok us → IsSchema (record { tables = us })
schema_whole bytes ts us e few differ is =
    let pairs = each_ok placed ts us is in
    let f = and_parts (nat_le (length ts) 64) (list_all parts_are_few ts) few in
    let d = and_parts (are_different (λ t. t.name) ts) (list_all parts_differ ts) differ in
    let size = pairs_length (λ t u. placed t ≡ Ok u) ts us pairs in
    let most = leb-true (length ts) 64 f.0 in
    record {
      few = omega arith;
      different = subst AreDifferent (same_names ts us pairs) (different_ok (λ t. t.name) ts d.0);
      tables = tables_whole ts us pairs (entries_ok bytes ts e) f.1 d.1;
    }
