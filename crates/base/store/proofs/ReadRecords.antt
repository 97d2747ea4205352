-- Records and the rows that they stand for.
use Rattle.std.proofs.Common.{◌≡◌, ◌≢◌, ℕ, zero, suc, ◌+◌, ◌<◌, ◌≤◌, List, [], ◌∷◌, ◌++◌, length, take, get_or, map, Bool, true, false, Option, Some, None, refl, sym, ap, ◌∙◌, subst, arith, append_assoc, Result, Ok, Err, IfOk, bytes_eq, inl, inr}
use Rattle.std.specs.List.{AllByRecursion}
use Rattle.std.proofs.lemmas.List.{map-append}
use Rattle.csv.specs.Records.{field_at}
use Rattle.values.specs.declared.value.Value.{Value}
use Rattle.values.specs.declared.fault.Fault.{Fault}
use Rattle.values.specs.declared.fault.Fault.TheVariants.{Memory, Refused}
use Rattle.schema.specs.declared.schema.Column.{Column}
use Rattle.values.specs.declared.value.Value.TheVariants as value
use Rattle.schema.specs.Databases.{Row, FitsColumn, FitsColumns, most_rows}
use Rattle.store.specs.StoredColumns.{Takes, TakeRow}
use Rattle.store.specs.declared.fault.FieldFault.{FieldFault}
use Rattle.store.specs.declared.fault.TableCause.{TableCause}
use Rattle.store.specs.declared.fault.TableCause.TheVariants.{OtherHeader, OtherLength, Field, Repeated, TooMany}
use Rattle.store.specs.Reading.{NextOf}
use Rattle.std.proofs.lemmas.Slice.Eq.{bytes_eq-Decides}
use Rattle.values.proofs.Lists.{all_append}
use Rattle.store.specs.declared.records.Parsed.{Parsed}
use Rattle.store.specs.Tables.{Record, IsText, Stands, StandFor, FieldFails, FieldsFail, names_of}
use Rattle.store.specs.Fields.{field_of}
use Rattle.store.specs.Parsing.{Parses, ParsesFile, RowFails, fault_at, Written, RecordFails}
use Rattle.store.specs.Reports.{Reports}

-- ---- the fields of a record, one after the other

pub stands_more : (cs : List Column) (fs : Record) (i : ℕ) (vs : Row) (c : Column) (v : Value) (f : List ℕ) → i < length cs → c ≡ get_or cs i c → Some f ≡ field_at fs i
    → StandFor (take i cs) (take i fs) vs → Stands c f v → StandFor (take (suc i) cs) (take (suc i) fs) (vs ++ v ∷ [])
unfolding field_at
stands_more [] fs i vs c v f lt at here so_far more = absurd (omega arith)
stands_more (k ∷ cs) [] i vs c v f lt at here so_far more = cc here
stands_more (k ∷ cs) (g ∷ fs) zero [] c v f lt at here so_far more =
    let same : f ≡ g = cc here in
    (subst (λ x. Stands x g v) at (subst (λ x. Stands c x v) same more), tt)
stands_more (k ∷ cs) (g ∷ fs) zero (u ∷ vs) c v f lt at here so_far more = absurd so_far
stands_more (k ∷ cs) (g ∷ fs) (suc i) [] c v f lt at here so_far more = absurd so_far
stands_more (k ∷ cs) (g ∷ fs) (suc i) (u ∷ vs) c v f lt at here so_far more = (so_far.0, stands_more cs fs i vs c v f (omega arith) at here so_far.1 more)

pub fails_there : (cs : List Column) (fs : Record) (i : ℕ) (vs : Row) (c : Column) (f : List ℕ) (fault : FieldFault) → i < length cs → c ≡ get_or cs i c → Some f ≡ field_at fs i
    → StandFor (take i cs) (take i fs) vs → FieldFails c f fault → FieldsFail cs fs i fault
unfolding field_at
fails_there [] fs i vs c f fault lt at here so_far bad = absurd (omega arith)
fails_there (k ∷ cs) [] i vs c f fault lt at here so_far bad = cc here
fails_there (k ∷ cs) (g ∷ fs) zero vs c f fault lt at here so_far bad =
    let same : f ≡ g = cc here in
    subst (λ x. FieldFails x g fault) at (subst (λ x. FieldFails c x fault) same bad)
fails_there (k ∷ cs) (g ∷ fs) (suc i) [] c f fault lt at here so_far bad = absurd so_far
fails_there (k ∷ cs) (g ∷ fs) (suc i) (u ∷ vs) c f fault lt at here so_far bad = ((u, so_far.0), fails_there cs fs i vs c f fault (omega arith) at here so_far.1 bad)

-- ---- the names of a header

pub field_past : (fs : Record) (i : ℕ) → ◌≡◌ {A = Option (List ℕ)} None (field_at fs i) → length fs ≤ i
unfolding field_at
field_past [] i e = omega arith
field_past (x ∷ fs) zero e = cc e
field_past (x ∷ fs) (suc i) e = let h = field_past fs i e in omega arith

pub name_there : (cs : List Column) (i : ℕ) (c : Column) → i < length cs → c ≡ get_or cs i c → field_at (names_of cs) i ≡ Some c.name
unfolding field_at
name_there [] i c lt at = absurd (omega arith)
name_there (k ∷ cs) zero c lt at = ap (λ (x : Column). Some x.name) (sym at)
name_there (k ∷ cs) (suc i) c lt at = name_there cs i c (omega arith) at

pub same_more : (fs gs : Record) (i : ℕ) (f : List ℕ) → field_at fs i ≡ Some f → field_at gs i ≡ Some f → take i fs ≡ take i gs → take (suc i) fs ≡ take (suc i) gs
unfolding field_at
same_more [] gs i f p q h = cc p
same_more (x ∷ fs) [] i f p q h = cc q
same_more (x ∷ fs) (y ∷ gs) zero f p q h = let e : x ≡ y = cc (p, q) in ap (λ (z : List ℕ). z ∷ []) e
same_more (x ∷ fs) (y ∷ gs) (suc i) f p q h =
    let e : x ≡ y = cc h in
    let t : take i fs ≡ take i gs = cc h in
    ap (λ (z : List ℕ). z ∷ take (suc i) fs) e ∙ ap (λ (z : Record). y ∷ z) (same_more fs gs i f p q t)

-- ---- the records of a file, one after the other

pub row_is : (cs : List Column) (fs : Record) (vs : Row) → StandFor cs fs vs → (fs ≡ map field_of vs) × FitsColumns cs vs × AllByRecursion IsText vs
row_is [] [] [] h = (refl, tt, tt)
row_is [] [] (v ∷ vs) h = absurd h
row_is [] (f ∷ fs) vs h = absurd h
row_is (c ∷ cs) [] vs h = absurd h
row_is (c ∷ cs) (f ∷ fs) [] h = absurd h
row_is (c ∷ cs) (f ∷ fs) (v ∷ vs) h =
    let r = row_is cs fs vs h.1 in
    (ap (λ (x : List ℕ). x ∷ fs) h.0.written ∙ ap (λ (x : Record). field_of v ∷ x) r.0, (h.0.fits, r.1), (h.0.text, r.2))

pub written_more : (cs : List Column) (records : List Record) (rows : List Row) (fs : Record) (more : List Record) (row : Row)
    → Written cs records rows (fs ∷ more) → StandFor cs fs row → Written cs records (rows ++ row ∷ []) more
written_more cs records rows fs more row h s =
    let r = row_is cs fs row s in
    record {
      records_are = h.records_are ∙ ap (λ (x : Record). map (map field_of) rows ++ x ∷ more) r.0
          ∙ sym (ap (λ (x : List Record). x ++ more) (map-append (map field_of) rows (row ∷ [])) ∙ append_assoc (map (map field_of) rows) (map field_of row ∷ []) more);
      fit = all_append (FitsColumns cs) rows (row ∷ []) h.fit (r.1, tt);
      text = all_append (AllByRecursion IsText) rows (row ∷ []) h.text (r.2, tt);
    }

-- ---- what a reader gives next

pub row_fails : (cs : List Column) (n : ℕ) (fs : Record) (cause : TableCause) → n < most_rows → RowFails cs fs cause → RecordFails cs n fs cause
row_fails cs n fs OtherHeader few h = absurd h
row_fails cs n fs OtherLength few h = (few, h)
row_fails cs n fs (Field place wrong) few h = (few, h)
row_fails cs n fs (Repeated earlier) few h = absurd h
row_fails cs n fs TooMany few h = absurd h

pub ends_there : (cs : List Column) (records : List Record) (rows : List Row) (more : List Record) (found : Bool) (fields : Record) (P : List Record → Type 0)
    → NextOf more found fields P → found ≡ false → length rows ≤ most_rows → Written cs records rows more → Parses cs records (record { rows = rows; fault = None })
ends_there cs records rows [] found fields P h t few w = record { rest = []; written = w; few = few; ends = refl }
ends_there cs records rows (r ∷ rs) found fields P h t few w = cc (h.0, t)

pub stops_there : (cs : List Column) (records : List Record) (rows : List Row) (more : List Record) (found : Bool) (fields : Record) (P : List Record → Type 0) (cause : TableCause)
    → NextOf more found fields P → found ≡ true → length rows ≤ most_rows → Written cs records rows more → RecordFails cs (length rows) fields cause
    → Parses cs records (record { rows = rows; fault = Some (record { row = length rows + 1; cause = cause }) })
stops_there cs records rows [] found fields P cause h t few w bad = cc (h, t)
stops_there cs records rows (r ∷ rs) found fields P cause h t few w bad =
    record { rest = r ∷ rs; written = w; few = few; ends = (refl, subst (λ fs. RecordFails cs (length rows) fs cause) h.1 bad) }

pub goes_on : (cs : List Column) (records : List Record) (rows : List Row) (more : List Record) (found : Bool) (fields : Record) (P : List Record → Type 0) (row : Row)
    → NextOf more found fields P → found ≡ true → Written cs records rows more → StandFor cs fields row → (rs : List Record) × P rs × Written cs records (rows ++ row ∷ []) rs
goes_on cs records rows [] found fields P row h t w s = cc (h, t)
goes_on cs records rows (r ∷ rs) found fields P row h t w s = (rs, h.2, written_more cs records rows r rs row w (subst (λ fs. StandFor cs fs row) h.1 s))

pub nothing_there : (cs : List Column) (all : List Record) (found : Bool) (fields : Record) (P : List Record → Type 0) → NextOf all found fields P → found ≡ false → (rest : List Record) → all ≢ names_of cs ∷ rest
nothing_there cs [] found fields P h t rest e = cc e
nothing_there cs (r ∷ rs) found fields P h t rest e = cc (h.0, t)

pub other_names : (cs : List Column) (all : List Record) (found : Bool) (fields : Record) (P : List Record → Type 0) → NextOf all found fields P → found ≡ true → (fields ≡ names_of cs → ⊥) → (rest : List Record) → all ≢ names_of cs ∷ rest
other_names cs [] found fields P h t other rest e = cc e
other_names cs (r ∷ rs) found fields P h t other rest e = other (h.1 ∙ cc e)

pub right_names : (cs : List Column) (all : List Record) (found : Bool) (fields : Record) (P : List Record → Type 0) → NextOf all found fields P → found ≡ true → fields ≡ names_of cs → (rest : List Record) × P rest × (all ≡ names_of cs ∷ rest)
right_names cs [] found fields P h t e = cc (h, t)
right_names cs (r ∷ rs) found fields P h t e = (rs, h.2, ap (λ (x : Record). x ∷ rs) (sym h.1 ∙ e))

pub other_name : (cs : List Column) (fs : Record) (i : ℕ) (c : Column) (f : List ℕ) → i < length cs → c ≡ get_or cs i c → Some f ≡ field_at fs i → bytes_eq f c.name ≡ false → fs ≡ names_of cs → ⊥
other_name cs fs i c f lt at here ne e =
    let there : Some f ≡ Some c.name = here ∙ ap (λ (x : Record). field_at x i) e ∙ name_there cs i c lt at in
    let same : f ≡ c.name = cc there in
    let yes = (bytes_eq-Decides f c.name).1 same in
    cc (yes, ne)

pub same_name : (cs : List Column) (fs : Record) (i : ℕ) (c : Column) (f : List ℕ) → i < length cs → c ≡ get_or cs i c → Some f ≡ field_at fs i → bytes_eq f c.name ≡ true
    → take i fs ≡ take i (names_of cs) → take (i + 1) fs ≡ take (i + 1) (names_of cs)
same_name cs fs i c f lt at here eq so_far =
    let same : f ≡ c.name = (bytes_eq-Decides f c.name).0 eq in
    let next : suc i ≡ i + 1 = omega arith in
    subst (λ (j : ℕ). take j fs ≡ take j (names_of cs)) next (same_more fs (names_of cs) i f (sym here) (name_there cs i c lt at ∙ ap Some (sym same)) so_far)

-- a field at fault is why its record stands for no row
pub field_fails : (cs : List Column) (fs : Record) (i : ℕ) (vs : Row) (c : Column) (f : List ℕ) (fault : Fault FieldFault) → length fs ≡ length cs
    → i < length cs → c ≡ get_or cs i c → Some f ≡ field_at fs i → StandFor (take i cs) (take i fs) vs → Reports (λ (x : Unit {0}). Unit {0}) (FieldFails c f) (Err fault) → Reports (λ (x : Unit {0}). Unit {0}) (RowFails cs fs) (Err (fault_at i fault))
field_fails cs fs i vs c f Memory long lt at here so_far bad = tt
field_fails cs fs i vs c f (Refused wrong) long lt at here so_far bad = (long, fails_there cs fs i vs c f wrong lt at here so_far bad)

-- ---- the values of a row

pub stand_long : (cs : List Column) (fs : Record) (vs : Row) → StandFor cs fs vs → length vs ≡ length cs
stand_long [] [] [] h = refl
stand_long [] [] (v ∷ vs) h = absurd h
stand_long [] (f ∷ fs) vs h = absurd h
stand_long (c ∷ cs) [] vs h = absurd h
stand_long (c ∷ cs) (f ∷ fs) [] h = absurd h
stand_long (c ∷ cs) (f ∷ fs) (v ∷ vs) h = ap suc (stand_long cs fs vs h.1)

pub stands_next : (cs : List Column) (fs : Record) (i : ℕ) (vs : Row) (c : Column) (v : Value) (f : List ℕ) → i < length cs → c ≡ get_or cs i c → Some f ≡ field_at fs i
    → StandFor (take i cs) (take i fs) vs → Stands c f v → StandFor (take (i + 1) cs) (take (i + 1) fs) (vs ++ v ∷ [])
stands_next cs fs i vs c v f lt at here so_far more =
    let next : suc i ≡ i + 1 = omega arith in
    subst (λ (j : ℕ). StandFor (take j cs) (take j fs) (vs ++ v ∷ [])) next (stands_more cs fs i vs c v f lt at here so_far more)

pub after_header : {E : Type 0} (cs : List Column) (all rest : List Record) (r : Result Parsed E) → all ≡ names_of cs ∷ rest → IfOk r (Parses cs rest) → IfOk r (ParsesFile cs all)
after_header cs all rest (Ok p) e h = inl (rest, e, h)
after_header cs all rest (Err x) e h = tt

pub no_header_parses : {E : Type 0} (cs : List Column) (all : List Record) (r : Result Parsed E) → ((rest : List Record) → all ≢ names_of cs ∷ rest)
    → IfOk r (λ p. p ≡ record { rows = []; fault = Some (record { row = 0; cause = OtherHeader }) }) → IfOk r (ParsesFile cs all)
no_header_parses cs all (Ok p) other is = rw is (inr (other, refl, refl))
no_header_parses cs all (Err x) other is = tt

takes : (c : Column) (v : Value) → FitsColumn c v → Takes c.kind v
takes c value.Null h = tt
takes c (value.Int n) h = h
takes c (value.Text t) h = h

-- a row that stands for a record can be kept
pub take_row : (cs : List Column) (fs : Record) (vs : Row) → StandFor cs fs vs → TakeRow (map (λ c. c.kind) cs) vs
take_row [] [] [] h = tt
take_row [] [] (v ∷ vs) h = absurd h
take_row [] (f ∷ fs) vs h = absurd h
take_row (c ∷ cs) [] vs h = absurd h
take_row (c ∷ cs) (f ∷ fs) [] h = absurd h
take_row (c ∷ cs) (f ∷ fs) (v ∷ vs) h = (takes c v h.0.fits, take_row cs fs vs h.1)
