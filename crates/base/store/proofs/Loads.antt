-- What the records of a file are, from the rows parsed and the first repeat among them.
use Rattle.std.proofs.Common.{◌≡◌, ℕ, zero, suc, ◌+◌, ◌<◌, ◌≤◌, List, [], ◌∷◌, ◌++◌, length, take, drop, get_or, slice_index_or, map, Option, Some, None, refl, sym, ap, ◌∙◌, subst, arith, append_assoc, inl, inr}
use Rattle.std.specs.List.{AllByRecursion}
use Rattle.std.proofs.lemmas.List.{map-append, append-nil, get_or-take, length-take-le, take-append-drop}
use Rattle.std.proofs.Math.Seq.{take-suc, drop-cons}
use Rattle.values.proofs.Lists.{all_at}
use Rattle.schema.specs.declared.schema.Column.{Column}
use Rattle.schema.specs.declared.schema.Table.{Table}
use Rattle.schema.specs.Databases.{Row, FitsColumns, IsUnique, most_rows, SatisfiesTable}
use Rattle.store.specs.declared.fault.TableCause.{TableCause}
use Rattle.store.specs.declared.fault.TableCause.TheVariants.{OtherHeader, OtherLength, Field, Repeated, TooMany}
use Rattle.store.specs.declared.fault.TableRefusal.{TableRefusal}
use Rattle.store.specs.declared.records.Parsed.{Parsed}
use Rattle.store.specs.declared.unique.Repeat.{Repeat}
use Rattle.store.specs.Tables.{Record, IsText, StandFor, names_of, UniqueTo, RepeatsAt, RepeatsFirst, IsTable, FaultAfter, IsFaulty, IsFirstFault}
use Rattle.store.specs.Fields.{field_of}
use Rattle.store.specs.Parsing.{RecordFails, EndsAt, ParsesFile, EarliestRepeat}

-- ---- bounds

pub few_rows : (cs : List Column) (records : List Record) (p : Parsed) → ParsesFile cs records p → length p.rows ≤ most_rows
few_rows cs records p (inl h) = h.2.few
few_rows cs records p (inr h) = rw h.1 (omega arith)

pub repeat_below : (rows : List Row) (row e : ℕ) (lists : List (List ℕ)) → RepeatsFirst rows row e lists → e < row
repeat_below rows row e [] h = absurd h
repeat_below rows row e (u ∷ us) (inl h) = h.below
repeat_below rows row e (u ∷ us) (inr h) = repeat_below rows row e us h.1

-- ---- rows that agree up to a number

abbrev Agree : ℕ → List Row → List Row → Type 0
Agree n xs ys = (i : ℕ) → i < n → slice_index_or xs i [] ≡ slice_index_or ys i []

agree_unique : (n m : ℕ) (xs ys : List Row) (u : List ℕ) → Agree n xs ys → m ≤ n → UniqueTo m xs u → UniqueTo m ys u
agree_unique n m xs ys u a le h = λ i j lt low whole same.
    h i j lt low (rw (a i (omega arith)) whole) (rw (a i (omega arith), a j (omega arith)) same)

agree_repeats : (n row e : ℕ) (xs ys : List Row) (u : List ℕ) → Agree n xs ys → row < n → RepeatsAt xs row e u → RepeatsAt ys row e u
agree_repeats n row e xs ys u a low h =
    let low' = h.below in
    let at : slice_index_or ys e [] ≡ slice_index_or xs e [] = sym (a e (omega arith)) in
    record {
      below = h.below;
      whole = rw at h.whole;
      same = rw (at, sym (a row low)) h.same;
    }

agree_first : (n row e : ℕ) (xs ys : List Row) (lists : List (List ℕ)) → Agree n xs ys → row < n → RepeatsFirst xs row e lists → RepeatsFirst ys row e lists
agree_first n row e xs ys [] a low h = absurd h
agree_first n row e xs ys (u ∷ us) a low (inl h) = inl (agree_repeats n row e xs ys u a low h)
agree_first n row e xs ys (u ∷ us) a low (inr h) = inr (agree_unique n (row + 1) xs ys u a (omega arith) h.0, agree_first n row e xs ys us a low h.1)

agree_take : (n : ℕ) (xs : List Row) → Agree n xs (take n xs)
agree_take n xs = λ i lt. sym (get_or-take n xs i [] lt)

unique_front : (j : ℕ) (rows : List Row) (u : List ℕ) → j ≤ length rows → UniqueTo j rows u → IsUnique (take j rows) u
unique_front j rows u le h =
    let is : j ≡ length (take j rows) = sym (length-take-le j rows le) in
    subst (λ (n : ℕ). UniqueTo n (take j rows) u) is (agree_unique j j rows (take j rows) u (agree_take j rows) (omega arith) h)

unique_fronts : (j : ℕ) (rows : List Row) (lists : List (List ℕ)) → j ≤ length rows → AllByRecursion (UniqueTo j rows) lists → AllByRecursion (IsUnique (take j rows)) lists
unique_fronts j rows [] le h = tt
unique_fronts j rows (u ∷ us) le h = (unique_front j rows u le h.0, unique_fronts j rows us le h.1)

-- ---- parts of rows that all hold

all_take : {A : Type 0} (P : A → Type 0) (j : ℕ) (xs : List A) → AllByRecursion P xs → AllByRecursion P (take j xs)
all_take P zero xs h = tt
all_take P (suc j) [] h = tt
all_take P (suc j) (x ∷ xs) h = (h.0, all_take P j xs h.1)

pub row_stands : (cs : List Column) (row : Row) → FitsColumns cs row → AllByRecursion IsText row → StandFor cs (map field_of row) row
row_stands [] [] h t = tt
row_stands [] (v ∷ vs) h t = absurd h
row_stands (c ∷ cs) [] h t = absurd h
row_stands (c ∷ cs) (v ∷ vs) h t = (record { written = refl; fits = h.0; text = t.0 }, row_stands cs vs h.1 t.1)

parted : (rows : List Row) (j : ℕ) (rest : List Record) → j < length rows
    → map (map field_of) rows ++ rest ≡ map (map field_of) (take j rows) ++ map field_of (get_or rows j []) ∷ (map (map field_of) (drop (suc j) rows) ++ rest)
parted rows j rest lt =
    let parts : take j rows ++ get_or rows j [] ∷ drop (suc j) rows ≡ rows = ap (λ (x : List Row). take j rows ++ x) (sym (drop-cons rows j [] lt)) ∙ take-append-drop j rows in
    ap (λ (x : List Row). map (map field_of) x ++ rest) (sym parts)
    ∙ ap (λ (x : List Record). x ++ rest) (map-append (map field_of) (take j rows) (get_or rows j [] ∷ drop (suc j) rows))
    ∙ append_assoc (map (map field_of) (take j rows)) (map field_of (get_or rows j []) ∷ map (map field_of) (drop (suc j) rows)) rest

-- ---- what the file is

repeated_there : (t : Table) (rows : List Row) (r : Repeat) → EarliestRepeat rows t.unique r → RepeatsFirst (take r.row rows ++ get_or rows r.row [] ∷ []) (length (take r.row rows)) r.earlier t.unique
repeated_there t rows r h =
    let low = h.within in
    let is : r.row ≡ length (take r.row rows) = sym (length-take-le r.row rows (omega arith)) in
    let next : take (suc r.row) rows ≡ take r.row rows ++ get_or rows r.row [] ∷ [] = take-suc rows r.row [] low in
    subst (λ (n : ℕ). RepeatsFirst (take r.row rows ++ get_or rows r.row [] ∷ []) n r.earlier t.unique) is
    (subst (λ (xs : List Row). RepeatsFirst xs r.row r.earlier t.unique) next (agree_first (suc r.row) r.row r.earlier rows (take (suc r.row) rows) t.unique (agree_take (suc r.row) rows) (omega arith) h.there))

pub repeat_reported : (t : Table) (records : List Record) (p : Parsed) (r : Repeat) → ParsesFile t.columns records p → EarliestRepeat p.rows t.unique r
    → IsFirstFault t records (record { row = r.row + 1; cause = Repeated (r.earlier + 1) })
repeat_reported t records p r (inr h) e = let low = h.1 in let bad : r.row < 0 = rw (← ap length low) e.within in absurd (omega arith)
repeat_reported t records p r (inl h) e =
    let low = e.within in
    let w = h.2.written in
    let few = h.2.few in
    let size = length-take-le r.row p.rows (omega arith) in
    inr (record {
      rows = take r.row p.rows;
      faulty = map field_of (get_or p.rows r.row []);
      more = map (map field_of) (drop (suc r.row) p.rows) ++ h.2.rest;
      records_are = h.1 ∙ ap (λ (x : List Record). names_of t.columns ∷ x) (w.records_are ∙ parted p.rows r.row h.2.rest low);
      text = all_take (AllByRecursion IsText) r.row p.rows w.text;
      satisfies = record {
        few = omega arith;
        fit = all_take (FitsColumns t.columns) r.row p.rows w.fit;
        unique = unique_fronts r.row p.rows t.unique (omega arith) e.before;
      };
      row_is = ap (λ (n : ℕ). n + 1) (sym size);
      fault = (omega arith, (get_or p.rows r.row [], row_stands t.columns (get_or p.rows r.row []) (all_at (FitsColumns t.columns) p.rows r.row [] low w.fit) (all_at (AllByRecursion IsText) p.rows r.row [] low w.text), (r.earlier, refl, repeated_there t p.rows r e)));
    })

fault_after : (t : Table) (rows : List Row) (fs : Record) (cause : TableCause) → RecordFails t.columns (length rows) fs cause → FaultAfter t rows fs cause
fault_after t rows fs OtherHeader h = h
fault_after t rows fs OtherLength h = h
fault_after t rows fs (Field place wrong) h = (h.0, h.1.0, h.1.1)
fault_after t rows fs (Repeated earlier) h = absurd h
fault_after t rows fs TooMany h = h

ends_faulty : (t : Table) (records rest : List Record) (rows : List Row) (refusal : TableRefusal) → records ≡ names_of t.columns ∷ (map (map field_of) rows ++ rest) → AllByRecursion (AllByRecursion IsText) rows → SatisfiesTable t rows
    → EndsAt t.columns (length rows) rest (Some refusal) → IsFaulty t records refusal
ends_faulty t records [] rows refusal is text s h = absurd h
ends_faulty t records (fs ∷ more) rows refusal is text s h = record {
  rows = rows;
  faulty = fs;
  more = more;
  records_are = is;
  text = text;
  satisfies = s;
  row_is = h.0;
  fault = fault_after t rows fs refusal.cause h.1;
}

pub fault_reported : (t : Table) (records : List Record) (p : Parsed) (refusal : TableRefusal) → ParsesFile t.columns records p → p.fault ≡ Some refusal → AllByRecursion (IsUnique p.rows) t.unique → IsFirstFault t records refusal
fault_reported t records p refusal (inr h) is u = inl (h.0, cc (is, h.2))
fault_reported t records p refusal (inl h) is u =
    let w = h.2.written in
    inr (ends_faulty t records h.2.rest p.rows refusal (h.1 ∙ ap (λ (x : List Record). names_of t.columns ∷ x) w.records_are) w.text (record { few = h.2.few; fit = w.fit; unique = u }) (subst (λ (f : Option TableRefusal). EndsAt t.columns (length p.rows) h.2.rest f) is h.2.ends))

pub table_reported : (t : Table) (records : List Record) (p : Parsed) → ParsesFile t.columns records p → p.fault ≡ None → AllByRecursion (IsUnique p.rows) t.unique → IsTable t records p.rows
table_reported t records p (inr h) is u = cc (is, h.2)
table_reported t records p (inl h) is u =
    let w = h.2.written in
    let none : h.2.rest ≡ [] = subst (λ (f : Option TableRefusal). EndsAt t.columns (length p.rows) h.2.rest f) is h.2.ends in
    record {
      records_are = h.1 ∙ ap (λ (x : List Record). names_of t.columns ∷ x) (w.records_are ∙ ap (λ (x : List Record). map (map field_of) p.rows ++ x) none ∙ append-nil (map (map field_of) p.rows));
      text = w.text;
      satisfies = record { few = h.2.few; fit = w.fit; unique = u };
    }
