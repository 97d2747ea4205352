-- Bytes that spell statistics are read as these.
use Rattle.std.proofs.Common.{◌≡◌, ℕ, List, [], ◌∷◌, length, Option, Some, None, Result, Ok, refl, ◌∙◌, codes, inl, inr}
use Rattle.std.specs.List.{count_by}
use Rattle.std.specs.Option.{is_some}
use Rattle.std.proofs.lemmas.Bool.{eq-eqb}
use Rattle.serde_json.specs.Data.{Data, Items}
use Rattle.serde_json.specs.Find.{as_array}
use Rattle.values.specs.declared.fault.Fault.{Fault}
use Rattle.values.specs.Faults.{Gives}
use Rattle.schema.specs.Names.{Name}
use Rattle.schema.specs.Each.{each, Pairs}
use Rattle.json_parts.specs.Parts.{list_of}
use Rattle.json_parts.specs.Spelling.{HasKeys, HasMember}
use Rattle.json_parts.proofs.Reading.{json_ok, keys_read}
use Rattle.schema.specs.Spelling.{IsArray}
use Rattle.schema.specs.declared.schema.Column.{Column}
use Rattle.schema.specs.declared.schema.Table.{Table}
use Rattle.schema.specs.declared.schema.Schema.{Schema}
use Rattle.schema.proofs.Steps.{pairs_length}
use Rattle.statistics.specs.declared.counts.IndexStatistics.{IndexStatistics}
use Rattle.statistics.specs.declared.counts.TableStatistics.{TableStatistics}
use Rattle.statistics.specs.declared.counts.Statistics.{Statistics}
use Rattle.statistics.specs.declared.fault.StatisticsRefusal.{StatisticsRefusal}
use Rattle.statistics.specs.declared.fault.StatisticsRefusal.TheVariants.{NotJson, Shape}
use Rattle.statistics.specs.Entries.{number_in, items_in, index_in, indexes_in, column_in, known_in, fourth_in, column_keys_in, table_in, named_in, tables_in}
use Rattle.statistics.specs.Reading.{statistics_of}
use Rattle.statistics.proofs.ItemCounts.{object_of, not_object_of}
use Rattle.statistics.specs.Spelling.{HasNumber, IsIndexText, IsColumnText, AreColumnsText, HasColumns, IsTableText, AreTablesText, IsStatisticsText}

each_read : {A B R : Type 0} {S : A → B → Type 0} (f : A → Result B R) → ((x : A) (y : B) → S x y → f x ≡ Ok y) → (xs : List A) (ys : List B) → Pairs S xs ys → each f xs ≡ Ok ys
unfolding each
each_read f g [] [] h = refl
each_read f g [] (y ∷ ys) h = absurd h
each_read f g (x ∷ xs) [] h = absurd h
each_read f g (x ∷ xs) (y ∷ ys) h = rw (g x y h.0, each_read f g xs ys h.1) refl

number_read : (key : Name) (d : Data) (n : ℕ) → HasNumber key n d → number_in key d ≡ Ok n
unfolding number_in
number_read key d n (m, is, number) = rw (is, number) refl

items_read : (n : ℕ) (d : Data) (items : Items) → as_array d ≡ Some items → length (list_of items) ≡ n → items_in n d ≡ Ok (list_of items)
unfolding items_in
items_read n d items e size = rw (e, eq-eqb (length (list_of items)) n size) refl

index_read : (d : Data) (i : IndexStatistics) → IsIndexText d i → index_in d ≡ Ok i
unfolding index_in
index_read d i h = rw (keys_read Shape 2 d h.members, number_read (codes "keys") d i.keys h.keys, number_read (codes "pages") d i.pages h.pages) refl

indexes_read : (n : ℕ) (d : Data) (is : List IndexStatistics) → HasMember (codes "indexes") (λ m. IsArray IsIndexText m is) d → length is ≡ n → indexes_in n d ≡ Ok is
unfolding indexes_in
indexes_read n d is (m, m_is, (items, array, pairs)) size =
    rw (m_is, items_read n m items array (pairs_length IsIndexText (list_of items) is pairs ∙ size)) (each_read index_in index_read (list_of items) is pairs)

column_read : (d : Data) (c : Column) (keys : Option ℕ) → IsColumnText d c keys → column_in d c ≡ Ok keys
unfolding column_in
column_read d c None none = rw none refl
column_read d c (Some n) (m, is, (one, number)) = rw (is, keys_read Shape 1 m one, number_read (codes "keys") m n number) refl

known_read : (columns : List Column) (d : Data) (keys : List (Option ℕ)) → AreColumnsText columns d keys → known_in columns d ≡ Ok keys
unfolding known_in
known_read columns d keys h = rw (each_read (column_in d) (column_read d) columns keys h.each, keys_read Shape (count_by is_some keys) d h.members) refl

fourth_read : (columns : List Column) (d : Data) (keys : List (Option ℕ)) → HasKeys 4 d → HasMember (codes "columns") (λ m. AreColumnsText columns m keys) d → fourth_in columns d ≡ Ok keys
unfolding fourth_in
fourth_read columns d keys four (m, is, text) = rw (keys_read Shape 4 d four, is) (known_read columns m keys text)

column_keys_read : (columns : List Column) (d : Data) (keys : List (Option ℕ)) → HasColumns columns keys d → column_keys_in columns d ≡ Ok keys
unfolding column_keys_in
column_keys_read columns d keys (inl (three, none)) = rw (object_of 3 d three, none) refl
column_keys_read columns d keys (inr (four, text)) = rw (not_object_of 3 4 d four (λ e. cc e)) (fourth_read columns d keys four text)

table_read : (table : Table) (d : Data) (t : TableStatistics) → IsTableText table d t → table_in table d ≡ Ok t
unfolding table_in
table_read table d t h =
    rw (number_read (codes "rows") d t.rows h.rows, number_read (codes "pages") d t.pages h.pages, indexes_read (length table.indexes) d t.indexes h.indexes h.each, column_keys_read table.columns d t.column_keys h.columns) refl

named_read : (d : Data) (table : Table) (t : TableStatistics) → HasMember table.name (λ m. IsTableText table m t) d → named_in d table ≡ Ok t
unfolding named_in
named_read d table t (m, is, text) = rw (is, table_read table m t text) refl

tables_read : (tables : List Table) (d : Data) (ts : List TableStatistics) → HasKeys 1 d → HasMember (codes "tables") (λ m. AreTablesText tables m ts) d → tables_in tables d ≡ Ok ts
unfolding tables_in
tables_read tables d ts one (m, is, text) =
    rw (keys_read Shape 1 d one, is, keys_read Shape (length tables) m text.members) (each_read (named_in m) (named_read m) tables ts text.each)

read_back : (schema : Schema) (bytes : List ℕ) (s : Statistics) → IsStatisticsText schema bytes s → statistics_of schema bytes ≡ Ok s
unfolding statistics_of
read_back schema bytes s h = rw (json_ok NotJson bytes h.value h.text h.json, tables_read schema.tables h.value s.tables h.members h.tables) refl

-- so a call that gives what is read gives these statistics
pub given_back : (schema : Schema) (bytes : List ℕ) (result : Result Statistics (Fault StatisticsRefusal)) → Gives (λ x. x) result (statistics_of schema bytes) → (s : Statistics) → IsStatisticsText schema bytes s → Gives (λ x. x) result (Ok s)
given_back schema bytes result h s is = rw (read_back schema bytes s is) at h
