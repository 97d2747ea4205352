-- What is parsed of a file's front, and what comes after it.
use Rattle.std.proofs.Common.{◌≡◌, ℕ, ◌≤◌, List, [], ◌∷◌, ◌++◌, length, take, drop, map, Bool, true, false, Option, Some, None, is_some, Result, Ok, Err, OnOk, refl, sym, ap, ◌∙◌, subst, append_assoc, inl, inr}
use Rattle.std.proofs.lemmas.List.{append-nil}
use Rattle.schema.specs.declared.schema.Column.{Column}
use Rattle.schema.specs.Databases.{Row, most_rows}
use Rattle.store.specs.declared.fault.TableCause.TheVariants.{OtherHeader}
use Rattle.store.specs.declared.fault.TableRefusal.{TableRefusal}
use Rattle.store.specs.Tables.{Record, names_of, records_of}
use Rattle.store.specs.Fields.{field_of}
use Rattle.store.specs.Reading.{NextOf}
use Rattle.store.specs.Parsing.{Written, EndsAt, Parses, ParsesFile}
use Rattle.store.specs.Cuts.{CutsFile}
use Rattle.store.specs.Fronts.{Begins, ParsesFront, ParsesAll, ReadsFront}
use Rattle.store.proofs.ReadRecords.{right_names}

pub on_both : {T E : Type 0} (r : Result T E) (P Q R : Type 0) → (P → Q → R) → OnOk r P → OnOk r Q → OnOk r R
on_both (Ok x) P Q R f p q = f p q
on_both (Err e) P Q R f p q = tt

pub on_ok : {T E : Type 0} (r : Result T E) (P Q : Type 0) → (P → Q) → OnOk r P → OnOk r Q
on_ok (Ok x) P Q f p = f p
on_ok (Err e) P Q f p = tt

pub no_fault : {A : Type 0} (o : Option A) → is_some o ≡ false → o ≡ None
no_fault None e = refl
no_fault (Some x) e = cc e

-- ---- records behind those

written_longer : (cs : List Column) (records more : List Record) (rows : List Row) (rest : List Record) → Written cs records rows rest → Written cs (records ++ more) rows (rest ++ more)
written_longer cs records more rows rest w = record {
  records_are = ap (λ (y : List Record). y ++ more) w.records_are ∙ append_assoc (map (map field_of) rows) rest more;
  fit = w.fit;
  text = w.text;
}

fault_stays : (cs : List Column) (records more : List Record) (rows : List Row) (refusal : TableRefusal) (rest : List Record) → Written cs records rows rest → length rows ≤ most_rows → EndsAt cs (length rows) rest (Some refusal)
    → Parses cs (records ++ more) (record { rows = rows; fault = Some refusal })
fault_stays cs records more rows refusal [] w few e = absurd e
fault_stays cs records more rows refusal (fs ∷ rest) w few e = record { rest = fs ∷ (rest ++ more); written = written_longer cs records more rows (fs ∷ rest) w; few = few; ends = e }

pub front_of : (cs : List Column) (all records : List Record) (rows : List Row) (fault : Option TableRefusal) → all ≡ names_of cs ∷ records → Parses cs records (record { rows = rows; fault = fault }) → ParsesFront cs all true rows fault
front_of cs all records rows None e h = (records, e, subst (λ (y : List Record). Written cs records rows y) h.ends h.written)
front_of cs all records rows (Some refusal) e h = λ more. inl (records ++ more, ap (λ (y : List Record). y ++ more) e, fault_stays cs records more rows refusal h.rest h.written h.few h.ends)

pub front_named : (cs : List Column) (all records : List Record) (named : Bool) (rows : List Row) (fault : Option TableRefusal) → named ≡ true → all ≡ names_of cs ∷ records → Parses cs records (record { rows = rows; fault = fault }) → ParsesFront cs all named rows fault
front_named cs all records named rows fault t e h = rw t (front_of cs all records rows fault e h)

-- the rows go on at the next records
pub begun : (cs : List Column) (records : List Record) (rows : List Row) (rest : List Record) → Begins cs records true rows → (seen : List Record) × (records ++ rest ≡ names_of cs ∷ seen) × Written cs seen rows rest
begun cs records rows rest (old, e, w) = (old ++ rest, ap (λ (y : List Record). y ++ rest) e, written_longer cs old rest rows [] w)

-- ---- the first record

pub no_record : (cs : List Column) (rest : List Record) (rows : List Row) (found : Bool) (fields : Record) (P : List Record → Type 0) → rows ≡ [] → NextOf rest found fields P → found ≡ false → Begins cs rest false rows
no_record cs [] rows found fields P none h f = (refl, none)
no_record cs (r ∷ rs) rows found fields P none h f = cc (h.0, f)

pub other_first : (cs : List Column) (rest : List Record) (rows : List Row) (found : Bool) (fields : Record) (P : List Record → Type 0) → rows ≡ [] → NextOf rest found fields P → found ≡ true → (fields ≡ names_of cs → ⊥)
    → (more : List Record) → ParsesFile cs (rest ++ more) (record { rows = rows; fault = Some (record { row = 0; cause = OtherHeader }) })
other_first cs [] rows found fields P none h f other more = cc (h, f)
other_first cs (r ∷ rs) rows found fields P none h f other more = inr ((λ rest e. other (h.1 ∙ cc e)), none, refl)

pub first_names : (cs : List Column) (rest : List Record) (rows : List Row) (found : Bool) (fields : Record) (P : List Record → Type 0) → rows ≡ [] → NextOf rest found fields P → found ≡ true → fields ≡ names_of cs
    → (seen : List Record) × (rest ≡ names_of cs ∷ seen) × P seen × Written cs seen rows seen
first_names cs rest rows found fields P none h f e =
    let (seen, held, is) = right_names cs rest found fields P h f e in
    (seen, is, held, rw none (record { records_are = refl; fit = tt; text = tt }))

-- ---- the end

pub front_all : (cs : List Column) (records : List Record) (named : Bool) (rows : List Row) (fault : Option TableRefusal) → ParsesFront cs records named rows fault → ParsesAll cs records named rows fault
front_all cs records named rows None h = h
front_all cs records named rows (Some refusal) h = subst (λ (y : List Record). ParsesFile cs y (record { rows = rows; fault = Some refusal })) (append-nil records) (h [])

pub all_named : (cs : List Column) (records : List Record) (rows : List Row) (fault : Option TableRefusal) → length rows ≤ most_rows → ParsesAll cs records true rows fault → ParsesFile cs records (record { rows = rows; fault = fault })
all_named cs records rows None few (rest, e, w) = inl (rest, e, record { rest = []; written = w; few = few; ends = refl })
all_named cs records rows (Some refusal) few h = h

pub all_refused : (cs : List Column) (records : List Record) (named : Bool) (rows : List Row) (refusal : TableRefusal) → ParsesAll cs records named rows (Some refusal) → ParsesFile cs records (record { rows = rows; fault = Some refusal })
all_refused cs records named rows refusal h = h

pub all_nothing : (cs : List Column) (records : List Record) (rows : List Row) → Begins cs records false rows → ParsesFile cs records (record { rows = rows; fault = Some (record { row = 0; cause = OtherHeader }) })
all_nothing cs records rows (none, no_rows) = inr ((λ rest e. let bad : ◌≡◌ {A = List Record} [] (names_of cs ∷ rest) = sym none ∙ e in cc bad), no_rows, refl)

-- ---- bytes that are read

pub reads_more : (cs : List Column) (before rest bytes : List ℕ) (named : Bool) (rows : List Row) (fault : Option TableRefusal) → ReadsFront cs before rest named rows fault → ReadsFront cs (before ++ bytes) (rest ++ bytes) named rows fault
reads_more cs before rest bytes named rows None (records, b, e) =
    (records, b, λ more. ap records_of (append_assoc before bytes more) ∙ e (bytes ++ more) ∙ ap (λ (y : List ℕ). records ++ records_of y) (sym (append_assoc rest bytes more)))
reads_more cs before rest bytes named rows (Some refusal) h =
    λ more. subst (λ (y : List ℕ). ParsesFile cs (records_of y) (record { rows = rows; fault = Some refusal })) (sym (append_assoc before bytes more)) (h (bytes ++ more))

pub reads_past : (cs : List Column) (before rest bytes : List ℕ) (named : Bool) (rows : List Row) (fault : Option TableRefusal) → is_some fault ≡ true → ReadsFront cs before rest named rows fault → ReadsFront cs (before ++ bytes) rest named rows fault
reads_past cs before rest bytes named rows None done h = cc done
reads_past cs before rest bytes named rows (Some refusal) done h =
    λ more. subst (λ (y : List ℕ). ParsesFile cs (records_of y) (record { rows = rows; fault = Some refusal })) (sym (append_assoc before bytes more)) (h (bytes ++ more))

pub reads_cut : (cs : List Column) (before rest : List ℕ) (n : ℕ) (named named2 : Bool) (rows rows2 : List Row) (fault : Option TableRefusal) → ReadsFront cs before rest named rows None → CutsFile rest n
    → ((records : List Record) → Begins cs records named rows → ParsesFront cs (records ++ records_of (take n rest)) named2 rows2 fault) → ReadsFront cs before (drop n rest) named2 rows2 fault
reads_cut cs before rest n named named2 rows rows2 None (records, b, e) cut parse =
    (records ++ records_of (take n rest), parse records b, λ more. e more ∙ ap (λ (y : List Record). records ++ y) (cut.parts more) ∙ sym (append_assoc records (records_of (take n rest)) (records_of (drop n rest ++ more))))
reads_cut cs before rest n named named2 rows rows2 (Some refusal) (records, b, e) cut parse =
    λ more.
    let parted = e more ∙ ap (λ (y : List Record). records ++ y) (cut.parts more) ∙ sym (append_assoc records (records_of (take n rest)) (records_of (drop n rest ++ more))) in
    subst (λ (y : List Record). ParsesFile cs y (record { rows = rows2; fault = Some refusal })) (sym parted) (parse records b (records_of (drop n rest ++ more)))

pub reads_last : (cs : List Column) (bytes rest : List ℕ) (named named2 : Bool) (rows rows2 : List Row) (fault : Option TableRefusal) → ReadsFront cs bytes rest named rows None
    → ((records : List Record) → Begins cs records named rows → ParsesFront cs (records ++ records_of rest) named2 rows2 fault) → ParsesAll cs (records_of bytes) named2 rows2 fault
reads_last cs bytes rest named named2 rows rows2 fault (records, b, e) parse =
    let whole : records_of bytes ≡ records ++ records_of rest = ap records_of (sym (append-nil bytes)) ∙ e [] ∙ ap (λ (y : List ℕ). records ++ records_of y) (append-nil rest) in
    subst (λ (y : List Record). ParsesAll cs y named2 rows2 fault) (sym whole) (front_all cs (records ++ records_of rest) named2 rows2 fault (parse records b))

pub reads_done : (cs : List Column) (bytes rest : List ℕ) (named : Bool) (rows : List Row) (fault : Option TableRefusal) → is_some fault ≡ true → ReadsFront cs bytes rest named rows fault → ParsesAll cs (records_of bytes) named rows fault
reads_done cs bytes rest named rows None done h = cc done
reads_done cs bytes rest named rows (Some refusal) done h = subst (λ (y : List ℕ). ParsesFile cs (records_of y) (record { rows = rows; fault = Some refusal })) (append-nil bytes) (h [])
