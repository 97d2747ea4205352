-- Tables loaded one after the other.
use Rattle.std.proofs.Common.{◌≡◌, ◌≢◌, refl, ap, sym, ◌∙◌, ℕ, ◌+◌, ◌<◌, ◌≤◌, List, [], length, map, get_or, Option, Some, None, IfSome, Result, Ok, Err, inl, inr, arith}
use Rattle.std.proofs.Math.ListN.{set}
use Rattle.std.specs.List.{slice_get}
use Rattle.std.proofs.lemmas.Bool.{cases_eq}
use Rattle.std.proofs.lemmas.List.{get_or-map, get_or-set_same, get_or-set_other, length-set, length-map, map-set}
use Rattle.schema.specs.declared.schema.Schema.{Schema}
use Rattle.schema.specs.declared.schema.Table.{Table}
use Rattle.schema.specs.Databases.{Database, Stored}
use Rattle.store.specs.declared.fault.TableFault.{TableFault}
use Rattle.store.specs.declared.fault.TableFault.TheVariants as faults
use Rattle.store.specs.Devices.{Rose}
use Rattle.store.specs.Tables.{records_of}
use Rattle.store.specs.Databases.{ReplacesTable, LoadsTable, Loads}
use Rattle.pipeline.specs.declared.refusal.Refusal.{Refusal}
use Rattle.pipeline.specs.Refusals.{of_table}
use Rattle.pipeline.specs.EndToEnd.{Input, FileReports, TablesReported, IsLoadFault, IsDeviceFault, AreQuiet, RoseAlone}

-- the first so many tables are loaded, the other inputs are as they were, and no call failed
pub record IsLoaded (S : Schema) (inputs now : List Input) (counts later : List ℕ) (n : ℕ) (D : Database) : Type 0 where
  pub reported : TablesReported S inputs n D
  pub unread : (k : ℕ) → n ≤ k → get_or now k None ≡ get_or inputs k None
  pub quiet : (k : ℕ) → get_or later k 0 ≡ get_or counts k 0

-- what is said of the value that is there
pub said_of : {A : Type 0} (o : Option A) (x : A) (P : A → Type 0) → o ≡ Some x → IfSome o P → P x
said_of o x P e h = rw e at h

-- what is said of an input's bytes, where the input stands at this number
pub said_there : {R : Type 0} (remaining : R → Input) (tables : List R) (d : R) (n : ℕ) (P : List ℕ → Type 0) → n < length tables → IfSome (remaining (get_or tables n d)) P
    → (bytes : List ℕ) → get_or (map remaining tables) n None ≡ Some bytes → P bytes
said_there remaining tables d n P lt said bytes known =
    said_of (remaining (get_or tables n d)) bytes P (sym (get_or-map remaining tables n d None lt) ∙ known) said

-- what a load reported of its table's file
reported_there : (S : Schema) (old new : Stored) (n : ℕ) (t : Table) (bytes : List ℕ) (r : Result (Unit {0}) TableFault) → old.schema ≡ S → slice_get S.tables n ≡ Some t
    → Loads old new n (records_of bytes) r → LoadsTable old new n t (records_of bytes) r
reported_there S old new n t bytes r same at loads =
    said_of (slice_get old.schema.tables n) t (λ t. LoadsTable old new n t (records_of bytes) r) (ap (λ (s : Schema). slice_get s.tables n) same ∙ at) loads

-- a count that stays leaves all of them as they were
quiet_more : (counts later : List ℕ) (n c : ℕ) → n < length later → c ≡ get_or later n 0 → AreQuiet counts later → AreQuiet counts (set later n c)
quiet_more counts later n c lt still quiet k = elim (cases_eq k n) [
  | inl e ↦ rw e (get_or-set_same later n c 0 lt ∙ still ∙ quiet n)
  | inr ne ↦ get_or-set_other later n k c 0 ne ∙ quiet k
]

pub loaded_more : (S : Schema) (inputs now : List Input) (counts later : List ℕ) (old new : Stored) (n : ℕ) (i : Input) (c : ℕ)
    → n < length old.tables → n < length later → c ≡ get_or later n 0 → old.schema ≡ S → ReplacesTable old new n
    → ((bytes : List ℕ) → get_or now n None ≡ Some bytes → Loads old new n (records_of bytes) (Ok tt))
    → IsLoaded S inputs now counts later n old.tables → IsLoaded S inputs (set now n i) counts (set later n c) (n + 1) new.tables
loaded_more S inputs now counts later old new n i c lt counted still same replaced loads before = record {
  reported = reported;
  unread = λ k le. get_or-set_other now n k i None (λ e. absurd (omega (arith, e, le))) ∙ before.unread k (omega (arith, le));
  quiet = quiet_more counts later n c counted still before.quiet;
}
  where
    tables-are : new.tables ≡ set old.tables n replaced.0
    tables-are = ap (λ (s : Stored). s.tables) replaced.1

    here : FileReports S inputs n (Ok (get_or new.tables n []))
    here t bytes at input =
        let reported = reported_there S old new n t bytes (Ok tt) same at (loads bytes (before.unread n (omega arith) ∙ input)) in
        let rows : get_or new.tables n [] ≡ reported.0 = ap (λ D. get_or D n []) (ap (λ (s : Stored). s.tables) reported.2) ∙ get_or-set_same old.tables n reported.0 [] lt in
        rw rows reported.1

    reported : TablesReported S inputs (n + 1) new.tables
    reported k below = elim (cases_eq k n) [
      | inl e ↦ rw e here
      | inr ne ↦ λ t bytes at input. rw (tables-are, get_or-set_other old.tables n k replaced.0 [] ne) (before.reported k (omega (arith, below, ne)) t bytes at input)
    ]

-- an input whose count stayed has the count that was listed
pub still_counted : {R : Type 0} (failures : R → ℕ) (tables : List R) (d y : R) (n : ℕ) → n < length tables → failures y ≡ failures (get_or tables n d) → failures y ≡ get_or (map failures tables) n 0
still_counted failures tables d y n lt same = same ∙ sym (get_or-map failures tables n d 0 lt)

-- a load that fails after these
pub load_fails : (S : Schema) (inputs now : List Input) (counts later : List ℕ) (old new : Stored) (n : ℕ) (fault : TableFault) (refusal : Refusal) → n < length S.tables → old.schema ≡ S
    → ((bytes : List ℕ) → get_or now n None ≡ Some bytes → Loads old new n (records_of bytes) (Err fault))
    → IsLoaded S inputs now counts later n old.tables → refusal ≡ of_table n fault → IsLoadFault S inputs refusal
load_fails S inputs now counts later old new n faults.Memory refusal there same loads before is = rw is tt
load_fails S inputs now counts later old new n faults.Device refusal there same loads before is = rw is (record { is_there = there; earlier = old.tables; reported = before.reported })
load_fails S inputs now counts later old new n (faults.Refused r) refusal there same loads before is = rw is (record {
  reached = record { is_there = there; earlier = old.tables; reported = before.reported };
  fault = λ t bytes at input. reported_there S old new n t bytes (Err (faults.Refused r)) same at (loads bytes (before.unread n (omega arith) ∙ input));
})

-- the count of the failing input rose, and no other
pub device_rose : {R : Type 0} (failures : R → ℕ) (S : Schema) (inputs now : List Input) (counts : List ℕ) (tables : List R) (d y : R) (n : ℕ) (D : Database)
    → n < length tables → IsLoaded S inputs now counts (map failures tables) n D
    → Rose (failures (get_or tables n d)) (failures y) → RoseAlone counts (map failures (set tables n y)) n
device_rose failures S inputs now counts tables d y n D lt before rose =
    let first : get_or counts n 0 ≡ failures (get_or tables n d) = sym (before.quiet n) ∙ get_or-map failures tables n d 0 lt in
    let last : get_or (map failures (set tables n y)) n 0 ≡ failures y
    = get_or-map failures (set tables n y) n y 0 (rw length-set lt) ∙ ap failures (get_or-set_same tables n y y lt) in
    (rw (first, last) rose, λ m other. ap (λ (l : List ℕ). get_or l m 0) (map-set failures tables n y) ∙ get_or-set_other (map failures tables) n m (failures y) 0 other ∙ before.quiet m)

-- the counts stay where that of the failing input does
pub device_quiet : {R : Type 0} (failures : R → ℕ) (S : Schema) (inputs now : List Input) (counts : List ℕ) (tables : List R) (d y : R) (n : ℕ) (D : Database)
    → n < length tables → IsLoaded S inputs now counts (map failures tables) n D
    → failures y ≡ failures (get_or tables n d) → AreQuiet counts (map failures (set tables n y))
device_quiet failures S inputs now counts tables d y n D lt before same =
    rw map-set (quiet_more counts (map failures tables) n (failures y) (rw length-map lt) (still_counted failures tables d y n lt same) before.quiet)

-- so what a failing load reports of its device holds
pub load_device : (n : ℕ) (fault : TableFault) (refusal : Refusal) (old new : List ℕ) (o : ℕ) → (fault ≡ faults.Device → RoseAlone old new n)
    → (fault ≢ faults.Device → AreQuiet old new) → refusal ≡ of_table n fault → IsDeviceFault old new o o refusal
load_device n faults.Memory refusal old new o rose quiet is = rw is (quiet (λ e. cc e), refl)
load_device n faults.Device refusal old new o rose quiet is = rw is (rose refl, refl)
load_device n (faults.Refused r) refusal old new o rose quiet is = rw is (quiet (λ e. cc e), refl)
