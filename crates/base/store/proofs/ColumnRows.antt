-- Rows that are kept by columns.
use Rattle.std.proofs.Common.{◌≡◌, ℕ, zero, suc, ◌+◌, ◌-◌, ◌<◌, ◌≤◌, List, [], ◌∷◌, ◌++◌, length, map, take, get_or, Bool, true, false, cond, not, refl, sym, ap, ◌∙◌, subst, arith, length-append, pos, Option, Some, None, IfSome}
use Rattle.std.proofs.Math.ListN.{set}
use Rattle.std.specs.List.{range_with_len, AllByRecursion}
use Rattle.std.specs.Vec.{with_items}
use Rattle.std.specs.declared.vec.Vec.{Vec}
use Rattle.std.proofs.lemmas.List.{get_or_append_left, with_items_is}
use Rattle.std.proofs.lemmas.List.FromFn.{length-map-range_with_len, get_or-map-range_with_len, map-range_with_len_more}
use Rattle.std.proofs.Math.Seq.{get_or-append_seam}
use Rattle.values.specs.declared.value.Value.{Value}
use Rattle.values.specs.declared.value.Value.TheVariants as value
use Rattle.values.specs.Truth.{is_null}
use Rattle.schema.specs.declared.schema.Column.{Column}
use Rattle.schema.specs.declared.schema.Kind.{Kind}
use Rattle.schema.specs.Databases.{Row}
use Rattle.store.specs.declared.cells.Entries.{Entries}
use Rattle.store.specs.declared.cells.Entries.TheVariants as entries
use Rattle.store.specs.declared.cells.ColumnCells.{ColumnCells}
use Rattle.store.specs.declared.numbers.Numbers.{Numbers}
use Rattle.store.specs.declared.text_column.TextColumn.{TextColumn}
use Rattle.store.specs.NumberColumns.{AreNumbersOf}
use Rattle.store.specs.TextColumns.{AreTextsOf}
use Rattle.store.specs.StoredColumns.{Kept, Takes, TakeRow, kind_of, size_of, entry_at, HasCells, cell_at, row_at, rows_of, with_entry, with_value, with_row}
use Rattle.store.proofs.TextPlaces.{range_same}

abbrev pub kinds_of : List ColumnCells → List Kind
kinds_of cs = map (λ c. kind_of c.entries) cs

pub length_row : (cs : List ColumnCells) (i : ℕ) → length (row_at cs i) ≡ length cs
length_row [] i = refl
length_row (c ∷ cs) i = ap suc (length_row cs i)

rows_wide : (cs : List ColumnCells) (a n : ℕ) → AllByRecursion (λ r. length r ≡ length cs) (map (row_at cs) (range_with_len a n))
rows_wide cs a zero = tt
rows_wide cs a (suc n) = (length_row cs a, rows_wide cs (a + 1) n)

pub have_width : (cs : List ColumnCells) (n : ℕ) → AllByRecursion (λ r. length r ≡ length cs) (rows_of cs n)
have_width cs n = rows_wide cs 0 n

pub length_rows : (cs : List ColumnCells) (n : ℕ) → length (rows_of cs n) ≡ n
length_rows cs n = length-map-range_with_len (row_at cs) 0 n

pub row_there : (cs : List ColumnCells) (n i : ℕ) → i < n → get_or (rows_of cs n) i [] ≡ row_at cs i
row_there cs n i lt = get_or-map-range_with_len (row_at cs) 0 n i i [] lt (omega arith)

pub cell_there : (cs : List ColumnCells) (j i : ℕ) (c : ColumnCells) → j < length cs → c ≡ get_or cs j c → get_or (row_at cs i) j value.Null ≡ cell_at c i
cell_there [] j i c lt at = absurd (omega arith)
cell_there (k ∷ cs) zero i c lt at = ap (λ (x : ColumnCells). cell_at x i) (sym at)
cell_there (k ∷ cs) (suc j) i c lt at = cell_there cs j i c (omega arith) at

pub has_there : (cs : List ColumnCells) (n j : ℕ) (c : ColumnCells) → AllByRecursion (HasCells n) cs → j < length cs → c ≡ get_or cs j c → HasCells n c
has_there [] n j c h lt at = absurd (omega arith)
has_there (k ∷ cs) n zero c h lt at = subst (λ (x : ColumnCells). HasCells n x) (sym at) h.0
has_there (k ∷ cs) n (suc j) c h lt at = has_there cs n j c h.1 (omega arith) at

-- ---- one row more, column after column

pub with_nothing : (cs : List ColumnCells) → with_row cs [] ≡ cs
with_nothing [] = refl
with_nothing (c ∷ cs) = refl

pub length_with_row : (cs : List ColumnCells) (vs : Row) → length (with_row cs vs) ≡ length cs
length_with_row [] vs = refl
length_with_row (c ∷ cs) [] = refl
length_with_row (c ∷ cs) (v ∷ vs) = ap suc (length_with_row cs vs)

-- one value more
pub with_value_more : (cs : List ColumnCells) (vs : Row) (c d : ColumnCells) (v : Value) → length vs < length cs → c ≡ get_or (with_row cs vs) (length vs) c → d ≡ with_value c v
    → set (with_row cs vs) (length vs) d ≡ with_row cs (vs ++ v ∷ [])
with_value_more [] vs c d v lt at is = absurd (omega arith)
with_value_more (k ∷ cs) [] c d v lt at is = ap (λ (x : ColumnCells). x ∷ cs) (is ∙ ap (λ (x : ColumnCells). with_value x v) at) ∙ ap (λ (xs : List ColumnCells). with_value k v ∷ xs) (sym (with_nothing cs))
with_value_more (k ∷ cs) (u ∷ vs) c d v lt at is = ap (λ (xs : List ColumnCells). with_value k u ∷ xs) (with_value_more cs vs c d v (omega arith) at is)

pub value_pushed : (cs : List ColumnCells) (vs : Row) (columns : List ColumnCells) (place : ℕ) (c d : ColumnCells) (v : Value) → length vs ≡ place → place < length columns → columns ≡ with_row cs vs
    → c ≡ get_or columns place c → d ≡ with_value (get_or columns place c) v → set columns place d ≡ with_row cs (vs ++ v ∷ [])
value_pushed cs vs columns place c d v long lt is at more =
    let size : length columns ≡ length cs = ap length is ∙ length_with_row cs vs in
    let here : c ≡ get_or (with_row cs vs) (length vs) c = at ∙ ap (λ (xs : List ColumnCells). get_or xs place c) is ∙ ap (λ (i : ℕ). get_or (with_row cs vs) i c) (sym long) in
    ap (λ (xs : List ColumnCells). set xs place d) is ∙ ap (λ (i : ℕ). set (with_row cs vs) i d) (sym long) ∙ with_value_more cs vs c d v (omega arith) here (more ∙ ap (λ (x : ColumnCells). with_value x v) (sym at))

-- a vector of columns that were given a row
pub items_more : {Z : Type 0} (v : Vec ColumnCells Z) (new old : List ColumnCells) (row : Row) → old ≡ v.items → new ≡ with_row old row → (with_items v new).items ≡ with_row v.items row
items_more v new old row was is =
    let more : new ≡ with_row v.items row = is ∙ ap (λ (cs : List ColumnCells). with_row cs row) was in
    let size = ap length more ∙ length_with_row v.items row in
    with_items_is v new (omega (arith, size, v.ok)) ∙ more

-- one value fewer: what takes the last value off a column, whichever it was, gives the column before it
pub with_value_fewer : (i : ℕ) (cs : List ColumnCells) (vs : Row) (c d : ColumnCells) → i < length cs → i < length vs → c ≡ get_or (with_row cs (take (suc i) vs)) i c
    → ((b : ColumnCells) (v : Value) → c ≡ with_value b v → d ≡ b) → set (with_row cs (take (suc i) vs)) i d ≡ with_row cs (take i vs)
with_value_fewer i [] vs c d lt low at back = absurd (omega arith)
with_value_fewer i (k ∷ cs) [] c d lt low at back = absurd (omega arith)
with_value_fewer zero (k ∷ cs) (v ∷ vs) c d lt low at back = ap (λ (x : ColumnCells). x ∷ with_row cs []) (back k v at) ∙ ap (λ (xs : List ColumnCells). k ∷ xs) (with_nothing cs)
with_value_fewer (suc i) (k ∷ cs) (v ∷ vs) c d lt low at back = ap (λ (xs : List ColumnCells). with_value k v ∷ xs) (with_value_fewer i cs vs c d (omega arith) (omega arith) at back)

-- one more value taken back, of those that the places had more
pub taken_back : (places taken : ℕ) (before : List ColumnCells) (row : Row) (columns : List ColumnCells) (c d : ColumnCells) → taken < places → places ≤ length columns → length row ≡ places
    → c ≡ get_or columns (places - 1 - taken) c → ((b : ColumnCells) (v : Value) → c ≡ with_value b v → d ≡ b)
    → columns ≡ with_row before (take (places - taken) row) → set columns (places - 1 - taken) d ≡ with_row before (take (places - (taken + 1)) row)
taken_back places taken before row columns c d lt high long at back is =
    let left : places - taken ≡ suc (places - 1 - taken) = omega arith in
    let next : places - (taken + 1) ≡ places - 1 - taken = omega arith in
    let now : columns ≡ with_row before (take (suc (places - 1 - taken)) row) = is ∙ ap (λ (n : ℕ). with_row before (take n row)) left in
    let size : length columns ≡ length before = ap length now ∙ length_with_row before (take (suc (places - 1 - taken)) row) in
    rw next (ap (λ (cs : List ColumnCells). set cs (places - 1 - taken) d) now ∙ with_value_fewer (places - 1 - taken) before row c d (omega arith) (omega arith) (rw now at at) back)

pub nothing_left : (places taken : ℕ) (before : List ColumnCells) (row : Row) (columns : List ColumnCells) → places ≤ taken → columns ≡ with_row before (take (places - taken) row) → columns ≡ before
nothing_left places taken before row columns le is =
    let none : places - taken ≡ 0 = omega arith in
    is ∙ ap (λ (n : ℕ). with_row before (take n row)) none ∙ with_nothing before

kind_stays : (e : Entries) (v : Value) → kind_of (with_entry e v) ≡ kind_of e
kind_stays (entries.Numbers ns) v = refl
kind_stays (entries.Texts ts) v = refl

pub kinds_stay : (cs : List ColumnCells) (vs : Row) → kinds_of (with_row cs vs) ≡ kinds_of cs
kinds_stay [] vs = refl
kinds_stay (c ∷ cs) [] = refl
kinds_stay (c ∷ cs) (v ∷ vs) = ap (λ (k : Kind). k ∷ kinds_of (with_row cs vs)) (kind_stays c.entries v) ∙ ap (λ (ks : List Kind). kind_of c.entries ∷ ks) (kinds_stay cs vs)

-- the kind of the column at a place is that of the table's entry
pub kind_there : (cs : List ColumnCells) (ks : List Column) (i : ℕ) (c : ColumnCells) (k : Column) → kinds_of cs ≡ map (λ x. x.kind) ks → i < length ks → c ≡ get_or cs i c → k ≡ get_or ks i k
    → kind_of c.entries ≡ k.kind
kind_there cs [] i c k h lt at here = absurd (omega arith)
kind_there [] (l ∷ ks) i c k h lt at here = cc h
kind_there (d ∷ cs) (l ∷ ks) zero c k h lt at here =
    let first : kind_of d.entries ≡ l.kind = cc h in
    ap (λ (x : ColumnCells). kind_of x.entries) at ∙ first ∙ ap (λ (x : Column). x.kind) (sym here)
kind_there (d ∷ cs) (l ∷ ks) (suc i) c k h lt at here =
    let rest : kinds_of cs ≡ map (λ (x : Column). x.kind) ks = cc h in
    kind_there cs ks i c k rest (omega arith) at here

pub as_many : (cs : List ColumnCells) (ks : List Column) → kinds_of cs ≡ map (λ x. x.kind) ks → length cs ≡ length ks
as_many [] [] h = refl
as_many [] (k ∷ ks) h = cc h
as_many (c ∷ cs) [] h = cc h
as_many (c ∷ cs) (k ∷ ks) h = let rest : kinds_of cs ≡ map (λ (x : Column). x.kind) ks = cc h in ap suc (as_many cs ks rest)

size_more : (e : Entries) (v : Value) → size_of (with_entry e v) ≡ size_of e + 1
size_more (entries.Numbers ns) v = length-append ns _
size_more (entries.Texts ts) v = length-append ts _

has_more : (n : ℕ) (c : ColumnCells) (v : Value) → HasCells n c → HasCells (n + 1) (with_value c v)
has_more n c v h = record { known = length-append c.known _ ∙ ap (λ (k : ℕ). k + 1) h.known; entries = size_more c.entries v ∙ ap (λ (k : ℕ). k + 1) h.entries }

pub all_more : (n : ℕ) (cs : List ColumnCells) (vs : Row) → TakeRow (kinds_of cs) vs → AllByRecursion (HasCells n) cs → AllByRecursion (HasCells (n + 1)) (with_row cs vs)
all_more n [] vs t h = tt
all_more n (c ∷ cs) [] t h = absurd t
all_more n (c ∷ cs) (v ∷ vs) t h = (has_more n c v h.0, all_more n cs vs t.1 h.1)

entry_stays : (e : Entries) (v : Value) (i : ℕ) → i < size_of e → entry_at (with_entry e v) i ≡ entry_at e i
entry_stays (entries.Numbers ns) v i lt = ap value.Int (get_or_append_left ns _ (pos 0) i lt)
entry_stays (entries.Texts ts) v i lt = ap value.Text (get_or_append_left ts _ [] i lt)

cell_stays : (n : ℕ) (c : ColumnCells) (v : Value) (i : ℕ) → HasCells n c → i < n → cell_at (with_value c v) i ≡ cell_at c i
cell_stays n c v i h lt =
    let known = h.known in
    let size = h.entries in
    rw (get_or_append_left c.known (not (is_null v) ∷ []) false i (omega arith), entry_stays c.entries v i (omega arith)) refl

row_stays : (n : ℕ) (cs : List ColumnCells) (vs : Row) (i : ℕ) → AllByRecursion (HasCells n) cs → i < n → row_at (with_row cs vs) i ≡ row_at cs i
row_stays n [] vs i h lt = refl
row_stays n (c ∷ cs) [] i h lt = refl
row_stays n (c ∷ cs) (v ∷ vs) i h lt = ap (λ (x : Value). x ∷ row_at (with_row cs vs) i) (cell_stays n c v i h.0 lt) ∙ ap (λ (xs : Row). cell_at c i ∷ xs) (row_stays n cs vs i h.1 lt)

entry_last : (e : Entries) (v : Value) (n : ℕ) → Takes (kind_of e) v → is_null v ≡ false → size_of e ≡ n → entry_at (with_entry e v) n ≡ v
entry_last (entries.Numbers ns) value.Null n t k is = cc k
entry_last (entries.Numbers ns) (value.Int z) n t k is = rw (← is) (ap value.Int (get_or-append_seam ns z [] (pos 0)))
entry_last (entries.Numbers ns) (value.Text s) n t k is = cc t
entry_last (entries.Texts ts) value.Null n t k is = cc k
entry_last (entries.Texts ts) (value.Int z) n t k is = cc t.0
entry_last (entries.Texts ts) (value.Text s) n t k is = rw (← is) (ap value.Text (get_or-append_seam ts s [] []))

null_is : (v : Value) → is_null v ≡ true → value.Null ≡ v
null_is value.Null e = refl
null_is (value.Int z) e = cc e
null_is (value.Text s) e = cc e

last_by : (v w : Value) (null : Bool) → is_null v ≡ null → (is_null v ≡ false → w ≡ v) → cond (not null) w value.Null ≡ v
last_by v w true e h = null_is v e
last_by v w false e h = h e

cell_last : (n : ℕ) (c : ColumnCells) (v : Value) → HasCells n c → Takes (kind_of c.entries) v → cell_at (with_value c v) n ≡ v
cell_last n c v h t =
    let known : get_or (c.known ++ not (is_null v) ∷ []) n false ≡ not (is_null v) = subst (λ (k : ℕ). get_or (c.known ++ not (is_null v) ∷ []) k false ≡ not (is_null v)) h.known (get_or-append_seam c.known (not (is_null v)) [] false) in
    rw known (last_by v (entry_at (with_entry c.entries v) n) (is_null v) refl (λ e. entry_last c.entries v n t e h.entries))

row_last : (n : ℕ) (cs : List ColumnCells) (vs : Row) → AllByRecursion (HasCells n) cs → TakeRow (kinds_of cs) vs → row_at (with_row cs vs) n ≡ vs
row_last n [] [] h t = refl
row_last n [] (v ∷ vs) h t = absurd t
row_last n (c ∷ cs) [] h t = absurd t
row_last n (c ∷ cs) (v ∷ vs) h t = ap (λ (x : Value). x ∷ row_at (with_row cs vs) n) (cell_last n c v h.0 t.0) ∙ ap (λ (xs : Row). v ∷ xs) (row_last n cs vs h.1 t.1)

pub rows_more : (n : ℕ) (cs : List ColumnCells) (vs : Row) → AllByRecursion (HasCells n) cs → TakeRow (kinds_of cs) vs → rows_of (with_row cs vs) (n + 1) ≡ rows_of cs n ++ vs ∷ []
rows_more n cs vs h t =
    map-range_with_len_more (row_at (with_row cs vs)) 0 n n (omega arith)
    ∙ ap (λ (rs : List Row). rs ++ row_at (with_row cs vs) n ∷ []) (range_same (row_at (with_row cs vs)) (row_at cs) n (λ i lt. row_stays n cs vs i h lt))
    ∙ ap (λ (r : Row). rows_of cs n ++ r ∷ []) (row_last n cs vs h t)

-- the rows and this one
pub kept_more : (n : ℕ) (cs : List ColumnCells) (vs : Row) → AllByRecursion (HasCells n) cs → TakeRow (kinds_of cs) vs
    → ◌≡◌ {A = Kept} (record { kinds = kinds_of (with_row cs vs); rows = rows_of (with_row cs vs) (n + 1) }) (record { kinds = kinds_of cs; rows = rows_of cs n ++ vs ∷ [] })
kept_more n cs vs h t =
    ap (λ (ks : List Kind). let k : Kept = record { kinds = ks; rows = rows_of (with_row cs vs) (n + 1) } in k) (kinds_stay cs vs)
    ∙ ap (λ (rs : List Row). let k : Kept = record { kinds = kinds_of cs; rows = rs } in k) (rows_more n cs vs h t)

pub has_push : (n : ℕ) (cs : List ColumnCells) (c : ColumnCells) → AllByRecursion (HasCells n) cs → HasCells n c → AllByRecursion (HasCells n) (cs ++ c ∷ [])
has_push n [] c h k = (k, tt)
has_push n (d ∷ cs) c h k = (h.0, has_push n cs c h.1 k)

-- a place within the rows is a place within the columns
pub place_below : (cs : List ColumnCells) (n : ℕ) (rows : List Row) (i j : ℕ) → rows_of cs n ≡ rows → i < length rows → j < length (get_or rows i []) → (i < n) × (j < length cs)
place_below cs n rows i j is low within =
    let below : i < n = rw (← is, length_rows cs n) at low in
    (below, rw (← is, row_there cs n i below, length_row cs i) at within)

pub cell_of_rows : (cs : List ColumnCells) (n : ℕ) (rows : List Row) (i j : ℕ) (c : ColumnCells) → rows_of cs n ≡ rows → i < n → j < length cs → c ≡ get_or cs j c → cell_at c i ≡ get_or (get_or rows i []) j value.Null
cell_of_rows cs n rows i j c is low within at = rw (← is, row_there cs n i low) (sym (cell_there cs j i c within at))

-- what a column of numbers lends
numbers_there : (cs : List ColumnCells) (n : ℕ) (rows : List Row) (j : ℕ) (d : ColumnCells) (c : Numbers) → rows_of cs n ≡ rows → AllByRecursion (HasCells n) cs → j < length cs → d ≡ get_or cs j d
    → c.known.now ≡ d.known → d.entries ≡ entries.Numbers c.numbers.now → AreNumbersOf rows j c
numbers_there cs n rows j d c is all within at known numbers =
    let has = has_there cs n j d all within at in
    let size : length rows ≡ n = ap length (sym is) ∙ length_rows cs n in
    record {
      known = ap length known ∙ has.known ∙ sym size;
      numbers = sym (ap size_of numbers) ∙ has.entries ∙ sym size;
      value = λ i low.
          let here : cell_at d i ≡ get_or (get_or rows i []) j value.Null = cell_of_rows cs n rows i j d is (rw size at low) within at in
          sym here ∙ ap (λ (ks : List Bool). cond (get_or ks i false) (entry_at d.entries i) value.Null) (sym known)
          ∙ ap (λ (e : Entries). cond (get_or c.known.now i false) (entry_at e i) value.Null) numbers;
    }

pub numbers_lent : (cs : List ColumnCells) (n : ℕ) (rows : List Row) (j : ℕ) (d : ColumnCells) (o : Option Numbers) → rows_of cs n ≡ rows → AllByRecursion (HasCells n) cs → j < length cs → d ≡ get_or cs j d
    → IfSome o (λ c. c.known.now ≡ d.known) → IfSome o (λ c. d.entries ≡ entries.Numbers c.numbers.now) → IfSome o (AreNumbersOf rows j)
numbers_lent cs n rows j d None is all within at known numbers = tt
numbers_lent cs n rows j d (Some c) is all within at known numbers = numbers_there cs n rows j d c is all within at known numbers

-- ... and a column of texts
texts_there : (cs : List ColumnCells) (n : ℕ) (rows : List Row) (j : ℕ) (d : ColumnCells) (c : TextColumn) → rows_of cs n ≡ rows → AllByRecursion (HasCells n) cs → j < length cs → d ≡ get_or cs j d
    → c.known.now ≡ d.known → d.entries ≡ entries.Texts c.texts.now → AreTextsOf rows j c
texts_there cs n rows j d c is all within at known texts =
    let has = has_there cs n j d all within at in
    let size : length rows ≡ n = ap length (sym is) ∙ length_rows cs n in
    record {
      known = ap length known ∙ has.known ∙ sym size;
      texts = sym (ap size_of texts) ∙ has.entries ∙ sym size;
      value = λ i low.
          let here : cell_at d i ≡ get_or (get_or rows i []) j value.Null = cell_of_rows cs n rows i j d is (rw size at low) within at in
          sym here ∙ ap (λ (ks : List Bool). cond (get_or ks i false) (entry_at d.entries i) value.Null) (sym known)
          ∙ ap (λ (e : Entries). cond (get_or c.known.now i false) (entry_at e i) value.Null) texts;
    }

pub texts_lent : (cs : List ColumnCells) (n : ℕ) (rows : List Row) (j : ℕ) (d : ColumnCells) (o : Option TextColumn) → rows_of cs n ≡ rows → AllByRecursion (HasCells n) cs → j < length cs → d ≡ get_or cs j d
    → IfSome o (λ c. c.known.now ≡ d.known) → IfSome o (λ c. d.entries ≡ entries.Texts c.texts.now) → IfSome o (AreTextsOf rows j)
texts_lent cs n rows j d None is all within at known texts = tt
texts_lent cs n rows j d (Some c) is all within at known texts = texts_there cs n rows j d c is all within at known texts
