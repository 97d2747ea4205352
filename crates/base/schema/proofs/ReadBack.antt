-- Bytes that spell a schema are read as it.
use Rattle.std.proofs.Common.{◌≡◌, ◌≢◌, ℕ, zero, suc, ◌<◌, ◌≤◌, List, [], ◌∷◌, length, get_or, map, Bool, true, false, inl, inr, Some, Result, Ok, slice_index_or, refl, sym, ap, ◌∙◌, subst, arith, bytes_eq, codes, ◌==◌, nat_le}
use Rattle.std.proofs.lemmas.Bool.{le-leb, false_from_ne_true, lt-ltb, le-ltb, and_from, cases_order}
use Rattle.std.proofs.lemmas.Bool.Decides.{nat_tests}
use Rattle.std.proofs.lemmas.List.{length-map, get_or-map}
use Rattle.std.proofs.lemmas.List.Sums.{position_or_len_is}
use Rattle.std.proofs.lemmas.Slice.Eq.{bytes_eq-Decides}
use Rattle.std.specs.List.{AllByRecursion, list_all, position}
use Rattle.std.specs.Option.{is_none}
use Rattle.serde_json.specs.Data.{Data, Items}
use Rattle.serde_json.specs.Find.{as_array, as_bool, get}
use Rattle.values.specs.declared.fault.Fault.{Fault}
use Rattle.values.specs.Faults.{Gives}
use Rattle.json_parts.specs.Parts as json
use Rattle.json_parts.specs.Parts.{list_of}
use Rattle.json_parts.specs.Spelling.{HasMember}
use Rattle.json_parts.proofs.Reading.{json_ok, keys_read}
use Rattle.schema.specs.declared.fault.SchemaRefusal.{SchemaRefusal}
use Rattle.schema.specs.declared.fault.SchemaRefusal.TheVariants.{NotJson, Shape}
use Rattle.schema.specs.declared.schema.Kind.{Kind}
use Rattle.schema.specs.declared.schema.Kind.TheVariants.{Int, Text}
use Rattle.schema.specs.declared.schema.Column.{Column}
use Rattle.schema.specs.declared.schema.Table.{Table}
use Rattle.schema.specs.declared.schema.Schema.{Schema}
use Rattle.schema.specs.declared.entries.TableEntry.{TableEntry}
use Rattle.schema.specs.Each.{each, Pairs}
use Rattle.schema.specs.Names.{Name, is_name, place_of, are_different}
use Rattle.schema.specs.Limits.{is_short, lists_are_few, parts_are_few, are_few, lists_differ, parts_differ, names_differ}
use Rattle.schema.specs.Entries.{kind_in, member_kind, name_in, member_name, member_flag, names_in, column_in, columns_in, lists_in, table_in, tables_in, entries_in, some_of, items_in, member_items}
use Rattle.schema.specs.Places.{place_in, places_in, placed}
use Rattle.schema.specs.Reading.{schema_of}
use Rattle.schema.specs.Schemas.{AreDifferent, IsColumnList, AreLists, IsTable}
use Rattle.schema.specs.Spelling.{IsText, IsArray, word_of, IsColumnText, name_in_place, IsListText, IsTableText, IsSchemaText}

-- ---- shapes

name_read : (d : Data) (name : Name) → IsText d name → is_name name ≡ true → name_in d ≡ Ok name
unfolding name_in
name_read d name t named = rw (t, named) refl

kind_read : (d : Data) (k : Kind) → IsText d (word_of k) → kind_in d ≡ Ok k
unfolding kind_in
kind_read d Int t = rw t refl
kind_read d Text t = rw t refl

member_name_read : (d : Data) (name : Name) → HasMember (codes "name") (λ m. IsText m name) d → is_name name ≡ true → member_name d ≡ Ok name
unfolding member_name
member_name_read d name (m, is, text) named = rw (is, name_read m name text named) refl

member_kind_read : (d : Data) (k : Kind) → HasMember (codes "kind") (λ m. IsText m (word_of k)) d → member_kind d ≡ Ok k
unfolding member_kind
member_kind_read d k (m, is, text) = rw (is, kind_read m k text) refl

member_flag_read : (key : Name) (d : Data) (b : Bool) → HasMember key (λ m. as_bool m ≡ Some b) d → member_flag key d ≡ Ok b
unfolding member_flag
member_flag_read key d b (m, is, flag) = rw (is, flag) refl

items_read : (d : Data) (items : Items) → as_array d ≡ Some items → items_in d ≡ Ok (list_of items)
unfolding json.items_in
items_read d items e = rw e refl

member_items_read : (key : Name) (d m : Data) (items : Items) → get key d ≡ Some m → as_array m ≡ Some items → member_items key d ≡ Ok (list_of items)
unfolding member_items
member_items_read key d m items is e = rw (is, items_read m items e) refl

each_read : {A B R : Type 0} (f : A → Result B R) (xs : List A) (ys : List B) → Pairs (λ x y. f x ≡ Ok y) xs ys → each f xs ≡ Ok ys
unfolding each
each_read f [] [] h = refl
each_read f [] (y ∷ ys) h = absurd h
each_read f (x ∷ xs) [] h = absurd h
each_read f (x ∷ xs) (y ∷ ys) h = rw (h.0, each_read f xs ys h.1) refl

pairs_with : {A B : Type 0} {R S : A → B → Type 0} {P : B → Type 0} (f : (x : A) (y : B) → R x y → P y → S x y) (xs : List A) (ys : List B) → Pairs R xs ys → AllByRecursion P ys → Pairs S xs ys
pairs_with f [] [] h k = tt
pairs_with f [] (y ∷ ys) h k = absurd h
pairs_with f (x ∷ xs) [] h k = absurd h
pairs_with f (x ∷ xs) (y ∷ ys) h k = (f x y h.0 k.0, pairs_with f xs ys h.1 k.1)

-- the same where what is read is the image of the second
pairs_image : {A B C : Type 0} {R : A → B → Type 0} {P : B → Type 0} (S : A → C → Type 0) (g : B → C) (f : (x : A) (y : B) → R x y → P y → S x (g y)) (xs : List A) (ys : List B) → Pairs R xs ys → AllByRecursion P ys → Pairs S xs (map g ys)
pairs_image S g f [] [] h k = tt
pairs_image S g f [] (y ∷ ys) h k = absurd h
pairs_image S g f (x ∷ xs) [] h k = absurd h
pairs_image S g f (x ∷ xs) (y ∷ ys) h k = (f x y h.0 k.0, pairs_image S g f xs ys h.1 k.1)

some_read : {A : Type 0} (xs : List A) → 0 < length xs → some_of xs ≡ Ok xs
some_read [] lt = absurd (omega arith)
some_read (x ∷ xs) lt = let z : (suc (length xs) == 0) ≡ false = grind (arith, nat_tests) in rw z refl

column_read : (d : Data) (c : Column) → IsColumnText d c → is_name c.name ≡ true → column_in d ≡ Ok c
unfolding column_in
column_read d c h named =
    rw (keys_read Shape 3 d h.keys, member_name_read d c.name h.name named, member_kind_read d c.kind h.kind, member_flag_read (codes "not_null") d c.not_null h.not_null) refl

columns_read : (d : Data) (cs : List Column) → HasMember (codes "columns") (λ m. IsArray IsColumnText m cs) d → AllByRecursion (λ c. is_name c.name ≡ true) cs → 0 < length cs → columns_in d ≡ Ok cs
unfolding columns_in
columns_read d cs (m, m_is, (items, is, pairs)) named some =
    rw (member_items_read (codes "columns") d m items m_is is, each_read column_in (list_of items) cs (pairs_with column_read (list_of items) cs pairs named)) (some_read cs some)

-- ---- lists of columns

named_there : (cs : List Column) (p : ℕ) → AllByRecursion (λ c. is_name c.name ≡ true) cs → p < length cs → is_name (name_in_place cs p) ≡ true
named_there [] p h lt = absurd (omega arith)
named_there (c ∷ cs) zero h lt = h.0
named_there (c ∷ cs) (suc p) h lt = named_there cs p h.1 (omega arith)

pub names_of_places : List Column → List ℕ → List Name
names_of_places cs places = map (name_in_place cs) places

list_read : (cs : List Column) (d : Data) (places : List ℕ) → AllByRecursion (λ c. is_name c.name ≡ true) cs → IsListText cs d places → IsColumnList (length cs) places → names_in d ≡ Ok (names_of_places cs places)
unfolding names_in names_of_places
list_read cs d places named (items, is, pairs) list =
    let size : length (map (name_in_place cs) places) ≡ length places = length-map places (name_in_place cs) in
    let some = list.some in
    rw (items_read d items is, each_read name_in (list_of items) (map (name_in_place cs) places) (pairs_image (λ x n. name_in x ≡ Ok n) (name_in_place cs) (λ x p t lt. name_read x (name_in_place cs p) t (named_there cs p named lt)) (list_of items) places pairs list.below))
    (some_read (map (name_in_place cs) places) (omega arith))

lists_read : (cs : List Column) (key : Name) (d : Data) (lists : List (List ℕ)) → AllByRecursion (λ c. is_name c.name ≡ true) cs → HasMember key (λ m. IsArray (IsListText cs) m lists) d → AllByRecursion (IsColumnList (length cs)) lists → lists_in key d ≡ Ok (map (names_of_places cs) lists)
unfolding lists_in
lists_read cs key d lists named (m, m_is, (items, is, pairs)) all =
    rw (member_items_read key d m items m_is is) (each_read names_in (list_of items) (map (names_of_places cs) lists) (pairs_image (λ x n. names_in x ≡ Ok n) (names_of_places cs) (λ x ps t l. list_read cs x ps named t l) (list_of items) lists pairs all))

other_name : (m n : Name) → m ≢ n → bytes_eq m n ≡ false
other_name m n h = false_from_ne_true (bytes_eq m n) (λ t. h ((bytes_eq-Decides m n).0 t))

first_at : {A : Type 0} (p : A → Bool) (xs : List A) (i : ℕ) (d : A) → i < length xs → ((k : ℕ) → k < i → p (get_or xs k d) ≡ false) → p (get_or xs i d) ≡ true → position p xs ≡ Some i
first_at p xs i d lt before here =
    let is = position_or_len_is p xs i d (omega arith) before (λ low. here) in
    rw (is, lt-ltb i (length xs) lt) refl

none_at : {A : Type 0} (p : A → Bool) (xs : List A) (d : A) → ((k : ℕ) → k < length xs → p (get_or xs k d) ≡ false) → is_none (position p xs) ≡ true
none_at p xs d before =
    let is = position_or_len_is p xs (length xs) d (omega arith) before (λ low. absurd (omega arith)) in
    rw (is, le-ltb (length xs) (length xs) (omega arith)) refl

-- names that are different stand at one place each
place_read : (cs : List Column) (p : ℕ) → AreDifferent (map (λ c. c.name) cs) → p < length cs → place_in cs (name_in_place cs p) ≡ Ok p
place_read [] p h lt = absurd (omega arith)
place_read (c ∷ cs) p h lt =
    let size = length-map (c ∷ cs) (λ (x : Column). x.name) in
    let at : position (λ (x : Column). bytes_eq x.name (name_in_place (c ∷ cs) p)) (c ∷ cs) ≡ Some p =
    first_at (λ (x : Column). bytes_eq x.name (name_in_place (c ∷ cs) p)) (c ∷ cs) p c lt
    (λ k low. other_name (get_or (c ∷ cs) k c).name (name_in_place (c ∷ cs) p) (λ e. h k p low (omega arith) (get_or-map (λ (x : Column). x.name) (c ∷ cs) k c [] (omega arith) ∙ e)))
    ((bytes_eq-Decides (get_or (c ∷ cs) p c).name (name_in_place (c ∷ cs) p)).1 (sym (get_or-map (λ (x : Column). x.name) (c ∷ cs) p c [] lt))) in
    rw at refl

places_pairs : (cs : List Column) (places : List ℕ) → AreDifferent (map (λ c. c.name) cs) → AllByRecursion (λ p. p < length cs) places → Pairs (λ n p. place_in cs n ≡ Ok p) (map (name_in_place cs) places) places
places_pairs cs [] h below = tt
places_pairs cs (p ∷ ps) h below = (place_read cs p h below.0, places_pairs cs ps h below.1)

places_read : (cs : List Column) (places : List ℕ) → AreDifferent (map (λ c. c.name) cs) → AllByRecursion (λ p. p < length cs) places → places_in cs (names_of_places cs places) ≡ Ok places
unfolding names_of_places
places_read cs places h below = each_read (place_in cs) (map (name_in_place cs) places) places (places_pairs cs places h below)

lists_pairs : (cs : List Column) (lists : List (List ℕ)) → AreDifferent (map (λ c. c.name) cs) → AllByRecursion (IsColumnList (length cs)) lists → Pairs (λ n p. places_in cs n ≡ Ok p) (map (names_of_places cs) lists) lists
lists_pairs cs [] h all = tt
lists_pairs cs (l ∷ ls) h all = (places_read cs l h all.0.below, lists_pairs cs ls h all.1)

lists_placed : (cs : List Column) (lists : List (List ℕ)) → AreDifferent (map (λ c. c.name) cs) → AllByRecursion (IsColumnList (length cs)) lists → each (places_in cs) (map (names_of_places cs) lists) ≡ Ok lists
lists_placed cs lists h all = each_read (places_in cs) (map (names_of_places cs) lists) lists (lists_pairs cs lists h all)

-- ---- tables

pub entry_of : Table → TableEntry
entry_of u = record { name = u.name; columns = u.columns; unique = map (names_of_places u.columns) u.unique; indexes = map (names_of_places u.columns) u.indexes }

table_read : (d : Data) (u : Table) → IsTableText d u → IsTable u → table_in d ≡ Ok (entry_of u)
unfolding table_in entry_of
table_read d u h t =
    rw (keys_read Shape 4 d h.keys, member_name_read d u.name h.name t.named, columns_read d u.columns h.columns t.columns_named t.some, lists_read u.columns (codes "unique") d u.unique t.columns_named h.unique t.unique.each, lists_read u.columns (codes "indexes") d u.indexes t.columns_named h.indexes t.indexes.each) refl

table_placed : (u : Table) → IsTable u → placed (entry_of u) ≡ Ok u
unfolding placed entry_of
table_placed u t = rw (lists_placed u.columns u.unique t.different t.unique.each, lists_placed u.columns u.indexes t.different t.indexes.each) refl

tables_placed : (us : List Table) → AllByRecursion IsTable us → Pairs (λ e u. placed e ≡ Ok u) (map entry_of us) us
tables_placed [] h = tt
tables_placed (u ∷ us) h = (table_placed u h.0, tables_placed us h.1)

-- ---- limits

short_names : (cs : List Column) (places : List ℕ) → IsColumnList (length cs) places → is_short (names_of_places cs places) ≡ true
unfolding names_of_places
short_names cs places h =
    let size = length-map places (name_in_place cs) in
    let few = h.few in
    le-leb (length (map (name_in_place cs) places)) 8 (omega arith)

all_short : (cs : List Column) (lists : List (List ℕ)) → AllByRecursion (IsColumnList (length cs)) lists → list_all is_short (map (names_of_places cs) lists) ≡ true
all_short cs [] h = refl
all_short cs (l ∷ ls) h = and_from (is_short (names_of_places cs l)) (list_all is_short (map (names_of_places cs) ls)) (short_names cs l h.0) (all_short cs ls h.1)

few_lists : (cs : List Column) (lists : List (List ℕ)) → AreLists (length cs) lists → lists_are_few (map (names_of_places cs) lists) ≡ true
few_lists cs lists h =
    let size = length-map lists (names_of_places cs) in
    let few = h.few in
    and_from (nat_le (length (map (names_of_places cs) lists)) 16) (list_all is_short (map (names_of_places cs) lists)) (le-leb (length (map (names_of_places cs) lists)) 16 (omega arith)) (all_short cs lists h.each)

few_parts : (u : Table) → IsTable u → parts_are_few (entry_of u) ≡ true
unfolding entry_of
few_parts u h = rw (le-leb (length u.columns) 64 h.few, few_lists u.columns u.unique h.unique, few_lists u.columns u.indexes h.indexes) refl

all_few : (us : List Table) → AllByRecursion IsTable us → list_all parts_are_few (map entry_of us) ≡ true
all_few [] h = refl
all_few (u ∷ us) h = and_from (parts_are_few (entry_of u)) (list_all parts_are_few (map entry_of us)) (few_parts u h.0) (all_few us h.1)

few_tables : (us : List Table) → length us ≤ 64 → AllByRecursion IsTable us → are_few (map entry_of us) ≡ true
few_tables us few h =
    let size = length-map us entry_of in
    and_from (nat_le (length (map entry_of us)) 64) (list_all parts_are_few (map entry_of us)) (le-leb (length (map entry_of us)) 64 (omega arith)) (all_few us h)

-- ---- names that are different

rest_different : {A : Type 0} (name_of : A → Name) (x : A) (xs : List A) → AreDifferent (map name_of (x ∷ xs)) → AreDifferent (map name_of xs)
rest_different name_of x xs h = λ i j lt low same. h (suc i) (suc j) (omega arith) (omega arith) same

first_different : {A : Type 0} (name_of : A → Name) (x : A) (xs : List A) → AreDifferent (map name_of (x ∷ xs)) → is_none (place_of name_of xs (name_of x)) ≡ true
first_different name_of x xs h =
    let size = length-map xs name_of in
    none_at (λ y. bytes_eq (name_of y) (name_of x)) xs x (λ k low. other_name (name_of (get_or xs k x)) (name_of x) (λ e. h 0 (suc k) (omega arith) (omega arith) (sym (get_or-map name_of xs k x [] low ∙ e))))

differ : {A : Type 0} (name_of : A → Name) (xs : List A) → AreDifferent (map name_of xs) → are_different name_of xs ≡ true
unfolding are_different
differ name_of [] h = refl
differ name_of (x ∷ xs) h = and_from (is_none (place_of name_of xs (name_of x))) (are_different name_of xs) (first_different name_of x xs h) (differ name_of xs (rest_different name_of x xs h))

below_there : (n : ℕ) (places : List ℕ) (i : ℕ) → AllByRecursion (λ p. p < n) places → i < length places → get_or places i 0 < n
below_there n [] i h lt = absurd (omega arith)
below_there n (p ∷ ps) zero h lt = h.0
below_there n (p ∷ ps) (suc i) h lt = below_there n ps i h.1 (omega arith)

one_place : (cs : List Column) (p q : ℕ) → AreDifferent (map (λ c. c.name) cs) → p < length cs → q < length cs → name_in_place cs p ≡ name_in_place cs q → p ≡ q
one_place cs p q h low high e =
    let size = length-map cs (λ (c : Column). c.name) in
    elim (cases_order p q) [
      | inl same ↦ same
      | inr other ↦ elim other [
        | inl lt ↦ absurd (h p q lt (omega arith) e)
        | inr lt ↦ absurd (h q p lt (omega arith) (sym e))
      ]
    ]

places_differ : (cs : List Column) (places : List ℕ) → AreDifferent (map (λ c. c.name) cs) → IsColumnList (length cs) places → AreDifferent (map (λ name. name) (names_of_places cs places))
unfolding names_of_places
places_differ cs places h list = λ i j lt low same.
    let names = length-map places (name_in_place cs) in
    let all = length-map (map (name_in_place cs) places) (λ (n : Name). n) in
    let before : i < length places = omega arith in
    let here : j < length places = omega arith in
    let left : slice_index_or (map (λ (n : Name). n) (map (name_in_place cs) places)) i [] ≡ name_in_place cs (get_or places i 0) = get_or-map (λ (n : Name). n) (map (name_in_place cs) places) i [] [] (omega arith) ∙ get_or-map (name_in_place cs) places i 0 [] before in
    let right : slice_index_or (map (λ (n : Name). n) (map (name_in_place cs) places)) j [] ≡ name_in_place cs (get_or places j 0) = get_or-map (λ (n : Name). n) (map (name_in_place cs) places) j [] [] (omega arith) ∙ get_or-map (name_in_place cs) places j 0 [] here in
    list.different i j lt here (one_place cs (get_or places i 0) (get_or places j 0) h (below_there (length cs) places i list.below before) (below_there (length cs) places j list.below here) (sym left ∙ same ∙ right))

all_differ : (cs : List Column) (lists : List (List ℕ)) → AreDifferent (map (λ c. c.name) cs) → AllByRecursion (IsColumnList (length cs)) lists → lists_differ (map (names_of_places cs) lists) ≡ true
all_differ cs [] h all = refl
all_differ cs (l ∷ ls) h all = and_from (are_different (λ name. name) (names_of_places cs l)) (lists_differ (map (names_of_places cs) ls)) (differ (λ (name : Name). name) (names_of_places cs l) (places_differ cs l h all.0)) (all_differ cs ls h all.1)

parts : (u : Table) → IsTable u → parts_differ (entry_of u) ≡ true
unfolding entry_of
parts u h = rw (differ (λ (c : Column). c.name) u.columns h.different, all_differ u.columns u.unique h.different h.unique.each, all_differ u.columns u.indexes h.different h.indexes.each) refl

all_parts : (us : List Table) → AllByRecursion IsTable us → list_all parts_differ (map entry_of us) ≡ true
all_parts [] h = refl
all_parts (u ∷ us) h = and_from (parts_differ (entry_of u)) (list_all parts_differ (map entry_of us)) (parts u h.0) (all_parts us h.1)

entry_names : (us : List Table) → map (λ u. u.name) us ≡ map (λ t. t.name) (map entry_of us)
unfolding entry_of
entry_names [] = refl
entry_names (u ∷ us) = ap (λ (ns : List Name). u.name ∷ ns) (entry_names us)

tables_differ : (us : List Table) → AreDifferent (map (λ u. u.name) us) → AllByRecursion IsTable us → names_differ (map entry_of us) ≡ true
tables_differ us h all = and_from (are_different (λ t. t.name) (map entry_of us)) (list_all parts_differ (map entry_of us)) (differ (λ (t : TableEntry). t.name) (map entry_of us) (subst AreDifferent (entry_names us) h)) (all_parts us all)

-- ---- the bytes

entries_read : (bytes : List ℕ) (s : Schema) → IsSchemaText bytes s → entries_in bytes ≡ Ok (map entry_of s.tables)
unfolding entries_in tables_in
entries_read bytes s h =
    let (m, m_is, (items, is, pairs)) = h.tables in
    rw (json_ok NotJson bytes h.value h.text h.json, keys_read Shape 1 h.value h.keys, member_items_read (codes "tables") h.value m items m_is is) (each_read table_in (list_of items) (map entry_of s.tables) (pairs_image (λ x n. table_in x ≡ Ok n) entry_of (λ d u. table_read d u) (list_of items) s.tables pairs h.whole.tables))

pub read_back : (bytes : List ℕ) (s : Schema) → IsSchemaText bytes s → schema_of bytes ≡ Ok s
unfolding schema_of
read_back bytes s h =
    rw (entries_read bytes s h, few_tables s.tables h.whole.few h.whole.tables, tables_differ s.tables h.whole.different h.whole.tables, each_read placed (map entry_of s.tables) s.tables (tables_placed s.tables h.whole.tables)) refl

-- so a call that gives what is read gives this schema
pub given_back : (bytes : List ℕ) (result : Result Schema (Fault SchemaRefusal)) → Gives (λ x. x) result (schema_of bytes) → (s : Schema) → IsSchemaText bytes s → Gives (λ x. x) result (Ok s)
given_back bytes result h s is = rw (read_back bytes s is) at h
