-- What is read is spelt by the bytes.
use Rattle.std.proofs.Common.{◌≡◌, ℕ, List, [], ◌∷◌, Bool, true, false, cond, Some, Result, Ok, Err, refl, sym, ap, ◌∙◌, subst, bytes_eq, codes}
use Rattle.std.proofs.lemmas.Slice.Eq.{bytes_eq-Decides}
use Rattle.serde_json.specs.Data.{Data, Items}
use Rattle.serde_json.specs.Find.{as_str, as_bool, as_array}
use Rattle.values.proofs.Results.{both_ok, wanted_ok, wanted_if_ok}
use Rattle.json_parts.specs.Parts as json
use Rattle.json_parts.specs.Parts.{list_of}
use Rattle.json_parts.specs.Spelling.{HasKeys, HasMember}
use Rattle.json_parts.proofs.Reading.{keys_spelt, json_spelt}
use Rattle.schema.specs.declared.fault.SchemaRefusal.TheVariants.{NotJson, Shape, UnknownColumn}
use Rattle.schema.specs.declared.schema.Kind.{Kind}
use Rattle.schema.specs.declared.schema.Kind.TheVariants.{Int, Text}
use Rattle.schema.specs.declared.schema.Column.{Column}
use Rattle.schema.specs.declared.schema.Table.{Table}
use Rattle.schema.specs.declared.entries.TableEntry.{TableEntry}
use Rattle.schema.specs.Each.{each, Pairs}
use Rattle.schema.specs.Names.{Name, is_name}
use Rattle.schema.specs.Entries.{wanted, json_in, keys_in, field_in, member_flag, kind_in, member_kind, name_in, member_name, names_in, column_in, columns_in, lists_in, table_in, tables_in, entries_in, items_in, member_items}
use Rattle.schema.specs.Places.{place_in, places_in, placed}
use Rattle.schema.specs.Schemas.{IsSchema}
use Rattle.schema.specs.Spelling.{IsText, IsArray, word_of, IsColumnText, name_in_place, IsListText, IsTableText, IsSchemaText}
use Rattle.schema.proofs.Steps.{each_ok, place_ok}
use Rattle.schema.proofs.Schemas.{some_ok}

pub ok_same : {A R : Type 0} (x y : A) → ◌≡◌ {A = Result A R} (Ok x) (Ok y) → x ≡ y
ok_same x y e = cc e

pub pairs_map : {A B : Type 0} {R S : A → B → Type 0} (f : (x : A) (y : B) → R x y → S x y) (xs : List A) (ys : List B) → Pairs R xs ys → Pairs S xs ys
pairs_map f [] [] h = tt
pairs_map f [] (y ∷ ys) h = absurd h
pairs_map f (x ∷ xs) [] h = absurd h
pairs_map f (x ∷ xs) (y ∷ ys) h = (f x y h.0, pairs_map f xs ys h.1)

pairs_through : {A B C : Type 0} {R : A → B → Type 0} {S : B → C → Type 0} {T : A → C → Type 0} (f : (x : A) (y : B) (z : C) → R x y → S y z → T x z) (xs : List A) (ys : List B) (zs : List C) → Pairs R xs ys → Pairs S ys zs → Pairs T xs zs
pairs_through f [] [] [] h k = tt
pairs_through f [] [] (z ∷ zs) h k = absurd k
pairs_through f [] (y ∷ ys) zs h k = absurd h
pairs_through f (x ∷ xs) [] zs h k = absurd h
pairs_through f (x ∷ xs) (y ∷ ys) [] h k = absurd k
pairs_through f (x ∷ xs) (y ∷ ys) (z ∷ zs) h k = (f x y z h.0 k.0, pairs_through f xs ys zs h.1 k.1)

name_spelt : (d : Data) (name : Name) → name_in d ≡ Ok name → IsText d name
unfolding name_in
name_spelt d name e =
    let (text, p, q) = both_ok (wanted (as_str d)) _ name e in
    wanted_ok Shape (as_str d) text p ∙ ap Some (wanted_if_ok Shape (is_name text) text name q).1

member_name_spelt : (d : Data) (name : Name) → member_name d ≡ Ok name → HasMember (codes "name") (λ m. IsText m name) d
unfolding member_name
member_name_spelt d name e =
    let (m, p, q) = both_ok (field_in (codes "name") d) _ name e in
    (m, wanted_ok Shape _ m p, name_spelt m name q)

member_flag_spelt : (key : Name) (d : Data) (flag : Bool) → member_flag key d ≡ Ok flag → HasMember key (λ m. as_bool m ≡ Some flag) d
unfolding member_flag
member_flag_spelt key d flag e =
    let (m, p, q) = both_ok (field_in key d) _ flag e in
    (m, wanted_ok Shape _ m p, wanted_ok Shape _ flag q)

by_word : (is_int is_text : Bool) (text : List ℕ) (k : Kind) → bytes_eq text (codes "INT") ≡ is_int → bytes_eq text (codes "TEXT") ≡ is_text → cond is_int (Ok Int) (cond is_text (Ok Text) (Err Shape)) ≡ Ok k → text ≡ word_of k
by_word true is_text text Int p q e = (bytes_eq-Decides text (codes "INT")).0 p
by_word true is_text text Text p q e = cc e
by_word false true text Int p q e = cc e
by_word false true text Text p q e = (bytes_eq-Decides text (codes "TEXT")).0 q
by_word false false text k p q e = cc e

kind_spelt : (d : Data) (k : Kind) → kind_in d ≡ Ok k → IsText d (word_of k)
unfolding kind_in
kind_spelt d k e =
    let (text, p, q) = both_ok (wanted (as_str d)) _ k e in
    wanted_ok Shape (as_str d) text p ∙ ap Some (by_word (bytes_eq text (codes "INT")) (bytes_eq text (codes "TEXT")) text k refl refl q)

member_kind_spelt : (d : Data) (k : Kind) → member_kind d ≡ Ok k → HasMember (codes "kind") (λ m. IsText m (word_of k)) d
unfolding member_kind
member_kind_spelt d k e =
    let (m, p, q) = both_ok (field_in (codes "kind") d) _ k e in
    (m, wanted_ok Shape _ m p, kind_spelt m k q)

items_spelt : (d : Data) (ds : List Data) → items_in d ≡ Ok ds → (items : Items) × (as_array d ≡ Some items) × (list_of items ≡ ds)
unfolding json.items_in
items_spelt d ds e =
    let (items, p, q) = both_ok (wanted (as_array d)) _ ds e in
    (items, wanted_ok Shape (as_array d) items p, cc q)

array_spelt : {A : Type 0} (P : Data → A → Type 0) (d : Data) (ds : List Data) (xs : List A) → items_in d ≡ Ok ds → Pairs P ds xs → IsArray P d xs
array_spelt P d ds xs e h =
    let (items, is, same) = items_spelt d ds e in
    (items, is, rw same h)

member_array_spelt : {A : Type 0} (P : Data → A → Type 0) (key : Name) (d : Data) (ds : List Data) (xs : List A) → member_items key d ≡ Ok ds → Pairs P ds xs → HasMember key (λ m. IsArray P m xs) d
unfolding member_items
member_array_spelt P key d ds xs e h =
    let (m, p, q) = both_ok (field_in key d) _ ds e in
    (m, wanted_ok Shape _ m p, array_spelt P m ds xs q h)

column_spelt : (d : Data) (c : Column) → column_in d ≡ Ok c → IsColumnText d c
unfolding column_in
column_spelt d c e =
    let (keys, p0, q0) = both_ok (keys_in 3 d) _ c e in
    let (name, p1, q1) = both_ok (member_name d) _ c q0 in
    let (kind, p2, q2) = both_ok (member_kind d) _ c q1 in
    let (flag, p3, q3) = both_ok (member_flag (codes "not_null") d) _ c q2 in
    let made : IsColumnText d (record { name = name; kind = kind; not_null = flag }) = record {
      keys = keys_spelt Shape 3 d keys p0;
      name = member_name_spelt d name p1;
      kind = member_kind_spelt d kind p2;
      not_null = member_flag_spelt (codes "not_null") d flag p3;
    } in
    subst (IsColumnText d) (ok_same _ c q3) made

columns_spelt : (d : Data) (columns : List Column) → columns_in d ≡ Ok columns → HasMember (codes "columns") (λ m. IsArray IsColumnText m columns) d
unfolding columns_in
columns_spelt d columns e =
    let (ds, p, q) = both_ok (member_items (codes "columns") d) _ columns e in
    let (read, u, v) = both_ok (each column_in ds) _ columns q in
    member_array_spelt IsColumnText (codes "columns") d ds columns p (subst (Pairs IsColumnText ds) (some_ok read columns v).1 (pairs_map column_spelt ds read (each_ok column_in ds read u)))

place_spelt : (columns : List Column) (d : Data) (name : Name) (place : ℕ) → name_in d ≡ Ok name → place_in columns name ≡ Ok place → IsText d (name_in_place columns place)
place_spelt columns d name place e is =
    name_spelt d name e ∙ ap Some (sym (place_ok (λ (c : Column). c.name) columns name place (wanted_ok UnknownColumn _ _ is)).1)

list_spelt : (columns : List Column) (d : Data) (names : List Name) (places : List ℕ) → names_in d ≡ Ok names → places_in columns names ≡ Ok places → IsListText columns d places
unfolding names_in
list_spelt columns d names places e is =
    let (ds, p, q) = both_ok (items_in d) _ names e in
    let (read, u, v) = both_ok (each name_in ds) _ names q in
    let named : Pairs (λ x y. name_in x ≡ Ok y) ds names = subst (Pairs (λ x y. name_in x ≡ Ok y) ds) (some_ok read names v).1 (each_ok name_in ds read u) in
    array_spelt (λ x place. IsText x (name_in_place columns place)) d ds places p
    (pairs_through (place_spelt columns) ds names places named (each_ok (place_in columns) names places is))

lists_spelt : (columns : List Column) (key : Name) (d : Data) (lists : List (List Name)) (places : List (List ℕ)) → lists_in key d ≡ Ok lists → each (places_in columns) lists ≡ Ok places → HasMember key (λ m. IsArray (IsListText columns) m places) d
unfolding lists_in
lists_spelt columns key d lists places e is =
    let (ds, p, q) = both_ok (member_items key d) _ lists e in
    member_array_spelt (IsListText columns) key d ds places p
    (pairs_through (list_spelt columns) ds lists places (each_ok names_in ds lists q) (each_ok (places_in columns) lists places is))

-- an entry's parts, and the places of its columns
placed_spelt : (d : Data) (t : TableEntry) (u : Table) → HasKeys 4 d → member_name d ≡ Ok t.name → columns_in d ≡ Ok t.columns → lists_in (codes "unique") d ≡ Ok t.unique → lists_in (codes "indexes") d ≡ Ok t.indexes → placed t ≡ Ok u → IsTableText d u
unfolding placed
placed_spelt d t u keys name columns unique indexes is =
    let (us, p, q) = both_ok (each (places_in t.columns) t.unique) _ u is in
    let (xs, r, v) = both_ok (each (places_in t.columns) t.indexes) _ u q in
    let made : IsTableText d (record { name = t.name; columns = t.columns; unique = us; indexes = xs }) = record {
      keys = keys;
      name = member_name_spelt d t.name name;
      columns = columns_spelt d t.columns columns;
      unique = lists_spelt t.columns (codes "unique") d t.unique us unique p;
      indexes = lists_spelt t.columns (codes "indexes") d t.indexes xs indexes r;
    } in
    subst (IsTableText d) (ok_same _ u v) made

table_spelt : (d : Data) (t : TableEntry) (u : Table) → table_in d ≡ Ok t → placed t ≡ Ok u → IsTableText d u
unfolding table_in
table_spelt d t u e is =
    let (keys, p0, q0) = both_ok (keys_in 4 d) _ t e in
    let (name, p1, q1) = both_ok (member_name d) _ t q0 in
    let (columns, p2, q2) = both_ok (columns_in d) _ t q1 in
    let (unique, p3, q3) = both_ok (lists_in (codes "unique") d) _ t q2 in
    let (indexes, p4, q4) = both_ok (lists_in (codes "indexes") d) _ t q3 in
    let entry : TableEntry = record { name = name; columns = columns; unique = unique; indexes = indexes } in
    let at : placed entry ≡ Ok u = ap placed (ok_same entry t q4) ∙ is in
    placed_spelt d entry u (keys_spelt Shape 4 d keys p0) p1 p2 p3 p4 at

pub schema_spelt : (bytes : List ℕ) (ts : List TableEntry) (us : List Table) → entries_in bytes ≡ Ok ts → each placed ts ≡ Ok us → IsSchema (record { tables = us }) → IsSchemaText bytes (record { tables = us })
unfolding entries_in tables_in
schema_spelt bytes ts us e is whole =
    let (d, p0, q0) = both_ok (json_in bytes) _ ts e in
    let (keys, p1, q1) = both_ok (keys_in 1 d) _ ts q0 in
    let (ds, p2, q2) = both_ok (member_items (codes "tables") d) _ ts q1 in
    let text = json_spelt NotJson bytes d p0 in
    record {
      text = text.0;
      value = d;
      json = text.1;
      keys = keys_spelt Shape 1 d keys p1;
      tables = member_array_spelt IsTableText (codes "tables") d ds us p2 (pairs_through table_spelt ds ts us (each_ok table_in ds ts q2) (each_ok placed ts us is));
      whole = whole;
    }
