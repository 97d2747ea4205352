-- What was put at names spells statistics.
use Rattle.std.proofs.Common.{◌≡◌, ℕ, suc, ◌+◌, ◌≤◌, List, [], ◌∷◌, ◌++◌, length, get_or, map, take, true, false, cond, Option, Some, None, codes, refl, sym, ap, ◌∙◌, arith, inl, inr}
use Rattle.std.specs.List.{slice_get, count_by}
use Rattle.std.specs.Option.{is_some}
use Rattle.std.proofs.lemmas.List.{take_all}
use Rattle.std.proofs.lemmas.List.Sums.{sum_by-append, count_by_more_yes, count_by_more_no}
use Rattle.std.proofs.lemmas.Option.{slice_get_within, get_or_from_slice_get}
use Rattle.serde_json.specs.Data.{Data, number, unsigned, array, object, Members, no_members, put, items_depth, members_depth}
use Rattle.serde_json.specs.Events.{members_len}
use Rattle.serde_json.specs.Find.{get_member}
use Rattle.serde_json.specs.View.{view, items_view}
use Rattle.serde_json.specs.declared.value.Value.{Value}
use Rattle.json_parts.specs.Spelling.{HasKeys, HasMember}
use Rattle.json_parts.proofs.Reading.{list_of_views}
use Rattle.schema.specs.Each.{Pairs}
use Rattle.schema.specs.Schemas.{AreDifferent}
use Rattle.schema.specs.Spelling.{IsArray}
use Rattle.schema.specs.declared.schema.Column.{Column}
use Rattle.schema.specs.declared.schema.Table.{Table}
use Rattle.statistics.specs.Entries.{none_known}
use Rattle.statistics.specs.Spelling.{HasNumber, IsIndexText, IsColumnText, AreColumnsText, IsTableText, AreTablesText}
use Rattle.statistics.specs.declared.counts.IndexStatistics.{IndexStatistics}
use Rattle.statistics.specs.declared.counts.TableStatistics.{TableStatistics}
use Rattle.statistics_text.specs.Nesting.{IsWithin}
use Rattle.statistics_text.specs.Shapes.{FitsTable}
use Rattle.statistics_text.proofs.Members.{len_put, depth_put, ArePut, none_put, one_put, one_left_out, pairs_from}

-- ---- indexes

pub index_within : (i : IndexStatistics) → IsWithin 1 (λ d. IsIndexText d i) (object (put (codes "pages") (number (unsigned i.pages)) (put (codes "keys") (number (unsigned i.keys)) no_members)))
index_within i = (record { members = (_, refl, refl); keys = (_, refl, refl); pages = (_, refl, refl) }, omega arith)

abbrev pub IsIndexValue : Value → IndexStatistics → Type 0
IsIndexValue v i = IsWithin 1 (λ d. IsIndexText d i) (view v)

viewed : (vs : List Value) (is : List IndexStatistics) → Pairs IsIndexValue vs is → Pairs IsIndexText (map view vs) is
viewed [] [] h = tt
viewed [] (i ∷ is) h = absurd h
viewed (v ∷ vs) [] h = absurd h
viewed (v ∷ vs) (i ∷ is) h = (h.0.0, viewed vs is h.1)

shallow : (vs : List Value) (is : List IndexStatistics) → Pairs IsIndexValue vs is → items_depth (items_view vs) ≤ 1
shallow [] [] h = omega arith
shallow [] (i ∷ is) h = absurd h
shallow (v ∷ vs) [] h = absurd h
shallow (v ∷ vs) (i ∷ is) h = let here = h.0.1 in let more = shallow vs is h.1 in omega arith

pub indexes_within : (vs : List Value) (is : List IndexStatistics) → Pairs IsIndexValue vs is → IsWithin 2 (λ d. IsArray IsIndexText d is) (array (items_view vs))
indexes_within vs is h = let deep = shallow vs is h in ((items_view vs, refl, rw list_of_views (viewed vs is h)), omega arith)

pub index_more : (vs : List Value) (is : List IndexStatistics) (v : Value) (i : IndexStatistics) → Pairs IsIndexValue vs is → IsIndexValue v i → Pairs IsIndexValue (vs ++ v ∷ []) (is ++ i ∷ [])
index_more [] [] v i h here = (here, tt)
index_more [] (x ∷ is) v i h here = absurd h
index_more (w ∷ vs) [] v i h here = absurd h
index_more (w ∷ vs) (x ∷ is) v i h here = (h.0, index_more vs is v i h.1 here)

-- ---- columns

abbrev pub IsKeys : ℕ → Data → Type 0
IsKeys n d = HasKeys 1 d × HasNumber (codes "keys") n d

pub column_within : (n : ℕ) → IsWithin 1 (IsKeys n) (object (put (codes "keys") (number (unsigned n)) no_members))
column_within n = (((_, refl, refl), (_, refl, refl)), omega arith)

-- what stands at the name of a column: nothing where it isn't known
abbrev pub StandsFor : Column → Option ℕ → Option Data → Type 0
StandsFor c None o = o ≡ None
StandsFor c (Some n) o = (m : Data) × (o ≡ Some m) × IsKeys n m

-- of the first n columns those that are known are put
pub record AreKnown (columns : List Column) (keys : List (Option ℕ)) (n : ℕ) (ms : Members) : Type 0 where
  pub members : ArePut (λ c. c.name) StandsFor columns keys n ms
  pub size : members_len ms ≡ count_by is_some (take n keys)
  pub shallow : members_depth ms ≤ 1

module _ (columns : List Column) (keys : List (Option ℕ)) where
  pub none_is_put : AreKnown columns keys 0 no_members
  none_is_put = record { members = none_put (λ c. c.name) StandsFor columns keys; size = refl; shallow = omega arith }

  pub known_put : (n : ℕ) (c : Column) (k : ℕ) (d : Data) (ms : Members) → AreDifferent (map (λ c. c.name) columns) → slice_get columns n ≡ Some c → slice_get keys n ≡ Some (Some k) → IsWithin 1 (IsKeys k) d
      → AreKnown columns keys n ms → AreKnown columns keys (n + 1) (put c.name d ms)
  known_put n c k d ms different at at' such h =
      let below = slice_get_within keys n (Some k) at' in
      let read : is_some (get_or keys n None) ≡ true = ap is_some (get_or_from_slice_get keys n (Some k) None at') in
      let more = count_by_more_yes is_some keys n None below read in
      let longer = len_put c.name d ms (h.members.others n (omega arith) c at) in
      let size : members_len (put c.name d ms) ≡ count_by is_some (take (n + 1) keys) = longer ∙ ap suc h.size ∙ omega arith in
      record {
        members = one_put (λ c. c.name) StandsFor columns keys n c (Some k) d ms different at at' (d, refl, such.0) h.members;
        size = size;
        shallow = depth_put c.name d ms 1 such.1 h.shallow;
      }

  pub unknown_left_out : (n : ℕ) (c : Column) (ms : Members) → slice_get columns n ≡ Some c → slice_get keys n ≡ Some None → AreKnown columns keys n ms → AreKnown columns keys (n + 1) ms
  unknown_left_out n c ms at at' h =
      let below = slice_get_within keys n None at' in
      let read : is_some (get_or keys n None) ≡ false = ap is_some (get_or_from_slice_get keys n None None at') in
      record {
        members = one_left_out (λ c. c.name) StandsFor columns keys n c None ms at at' refl h.members;
        size = h.size ∙ sym (count_by_more_no is_some keys n None below read);
        shallow = h.shallow;
      }

  spelt : (ms : Members) (c : Column) (k : Option ℕ) → StandsFor c k (get_member c.name ms) → IsColumnText (object ms) c k
  spelt ms c None h = h
  spelt ms c (Some n) h = h

  pub columns_within : (n : ℕ) (ms : Members) → length keys ≡ length columns → n ≡ length columns → AreKnown columns keys n ms → IsWithin 2 (λ d. AreColumnsText columns d keys) (object ms)
  columns_within n ms size all h =
      let whole : take n keys ≡ keys = take_all n keys (omega arith) in
      let deep = h.shallow in (
        record {
          members = (ms, refl, h.size ∙ ap (count_by is_some) whole);
          each = pairs_from (IsColumnText (object ms)) columns keys (sym size) (λ k c o at at'. spelt ms c o (h.members.each k (let below = slice_get_within columns k c at in omega arith) c o at at'));
        },
        omega arith,
      )

some_known : (n : ℕ) → 1 + n ≡ 0 → ⊥
some_known n e = omega arith

-- where no member is put, no column is known
none_is_known : (columns : List Column) (keys : List (Option ℕ)) → length keys ≡ length columns → count_by is_some keys ≡ 0 → keys ≡ none_known columns
none_is_known [] [] size none = refl
none_is_known [] (k ∷ keys) size none = absurd (omega arith)
none_is_known (c ∷ columns) [] size none = absurd (omega arith)
none_is_known (c ∷ columns) (None ∷ keys) size none = ap (λ ks. None ∷ ks) (none_is_known columns keys (omega arith) none)
none_is_known (c ∷ columns) (Some n ∷ keys) size none = absurd (some_known (count_by is_some keys) (sym (sum_by-append (λ (o : Option ℕ). cond (is_some o) 1 0) (Some n ∷ []) keys) ∙ none))

pub none_counted : (columns : List Column) (keys : List (Option ℕ)) (ms : Members) → length keys ≡ length columns → AreColumnsText columns (object ms) keys → members_len ms ≡ 0 → keys ≡ none_known columns
none_counted columns keys ms size text none =
    let (found, is, counted) = text.members in
    let same : ms ≡ found = cc in
    none_is_known columns keys size (sym counted ∙ ap members_len (sym same) ∙ none)

-- ---- tables

-- what each table has
abbrev pub counts : TableStatistics → Data → Members
counts t indexes =
    put (codes "indexes") indexes (put (codes "pages") (number (unsigned t.pages)) (put (codes "rows") (number (unsigned t.rows)) no_members))

module _ (table : Table) (t : TableStatistics) (fits : FitsTable table t) (indexes : Data) (h : IsWithin 2 (λ d. IsArray IsIndexText d t.indexes) indexes) where
  pub table_within : t.column_keys ≡ none_known table.columns → IsWithin 3 (λ d. IsTableText table d t) (object (counts t indexes))
  table_within none = let deep = h.1 in (
    record {
      rows = (_, refl, refl);
      pages = (_, refl, refl);
      indexes = (indexes, refl, h.0);
      each = fits.indexes;
      columns = inl ((_, refl, refl), none);
    },
    omega arith,
  )

  pub known_within : (known : Data) → IsWithin 2 (λ d. AreColumnsText table.columns d t.column_keys) known → IsWithin 3 (λ d. IsTableText table d t) (object (put (codes "columns") known (counts t indexes)))
  known_within known k = let deep = h.1 in let deep' = k.1 in (
    record {
      rows = (_, refl, refl);
      pages = (_, refl, refl);
      indexes = (indexes, refl, h.0);
      each = fits.indexes;
      columns = inr ((_, refl, refl), (known, refl, k.0));
    },
    omega arith,
  )

abbrev pub StandsTable : Table → TableStatistics → Option Data → Type 0
StandsTable table t o = (m : Data) × (o ≡ Some m) × IsTableText table m t

-- the first n tables are put
pub record AreEntries (tables : List Table) (ts : List TableStatistics) (n : ℕ) (ms : Members) : Type 0 where
  pub members : ArePut (λ t. t.name) StandsTable tables ts n ms
  pub size : members_len ms ≡ n
  pub shallow : members_depth ms ≤ 3

module _ (tables : List Table) (ts : List TableStatistics) where
  pub no_table_put : AreEntries tables ts 0 no_members
  no_table_put = record { members = none_put (λ t. t.name) StandsTable tables ts; size = refl; shallow = omega arith }

  pub table_put : (n : ℕ) (table : Table) (t : TableStatistics) (d : Data) (ms : Members) → AreDifferent (map (λ t. t.name) tables) → slice_get tables n ≡ Some table → slice_get ts n ≡ Some t → IsWithin 3 (λ d. IsTableText table d t) d
      → AreEntries tables ts n ms → AreEntries tables ts (n + 1) (put table.name d ms)
  table_put n table t d ms different at at' such h =
      let longer = len_put table.name d ms (h.members.others n (omega arith) table at) in
      let size = h.size in
      record {
        members = one_put (λ t. t.name) StandsTable tables ts n table t d ms different at at' (d, refl, such.0) h.members;
        size = omega arith;
        shallow = depth_put table.name d ms 3 such.1 h.shallow;
      }

  pub tables_within : (n : ℕ) (ms : Members) → length tables ≡ length ts → n ≡ length tables → AreEntries tables ts n ms → IsWithin 4 (λ d. AreTablesText tables d ts) (object ms)
  tables_within n ms size all h =
      let deep = h.shallow in (
        record {
          members = (ms, refl, h.size ∙ all);
          each = pairs_from (λ table t. HasMember table.name (λ m. IsTableText table m t) (object ms)) tables ts size (λ k table t at at'. h.members.each k (let below = slice_get_within tables k table at in omega arith) table t at at');
        },
        omega arith,
      )
