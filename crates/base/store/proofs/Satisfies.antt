-- Databases that satisfy their schema.
use Rattle.std.proofs.Common.{◌≡◌, ℕ, zero, suc, ◌<◌, ◌≤◌, List, [], ◌∷◌, length, get_or, Option, Some, None, Result, Ok, Err, IfSome, slice_get, refl, ap, arith}
use Rattle.std.proofs.Math.ListN.{set}
use Rattle.schema.specs.declared.schema.Table.{Table}
use Rattle.store.specs.declared.fault.TableFault.{TableFault}
use Rattle.store.specs.declared.fault.TableFault.TheVariants as faults
use Rattle.store.specs.Tables.{Record, IsReported}
use Rattle.store.specs.Parsing.{ReadsTable}
use Rattle.store.specs.Databases.{LoadsTable, Loads}
use Rattle.schema.specs.Databases.{Row, Database, SatisfiesTable, SatisfyTables, Stored, most_rows}

pub satisfy_length : (ts : List Table) (D : Database) → SatisfyTables ts D → length ts ≡ length D
satisfy_length [] [] h = refl
satisfy_length [] (r ∷ D) h = absurd h
satisfy_length (t ∷ ts) [] h = absurd h
satisfy_length (t ∷ ts) (r ∷ D) h = ap suc (satisfy_length ts D h.1)

pub satisfy_few : (ts : List Table) (D : Database) (i : ℕ) (rows : List Row) → SatisfyTables ts D → i < length D → rows ≡ get_or D i rows → length rows ≤ most_rows
satisfy_few [] [] i rows h low at = omega arith
satisfy_few [] (r ∷ D) i rows h low at = absurd h
satisfy_few (t ∷ ts) [] i rows h low at = absurd h
satisfy_few (t ∷ ts) (r ∷ D) zero rows h low at = rw at h.0.few
satisfy_few (t ∷ ts) (r ∷ D) (suc i) rows h low at = satisfy_few ts D i rows h.1 (omega arith) at

pub satisfy_set : (ts : List Table) (D : Database) (i : ℕ) (t : Table) (rows : List Row) → SatisfyTables ts D → slice_get ts i ≡ Some t → SatisfiesTable t rows → SatisfyTables ts (set D i rows)
satisfy_set [] [] i t rows h at s = cc at
satisfy_set [] (r ∷ D) i t rows h at s = absurd h
satisfy_set (k ∷ ts) [] i t rows h at s = absurd h
satisfy_set (k ∷ ts) (r ∷ D) zero t rows h at s = let same : t ≡ k = cc at in (rw (← same) s, h.1)
satisfy_set (k ∷ ts) (r ∷ D) (suc i) t rows h at s = (h.0, satisfy_set ts D i t rows h.1 at s)

-- ---- what a load reports

at_some : {A : Type 0} (o : Option A) (x : A) (P : A → Type 0) → o ≡ Some x → P x → IfSome o P
at_some o x P e p = rw e p

read_fault : (old new : Stored) (n : ℕ) (t : Table) (records : List Record) (e : TableFault) → ReadsTable t records (Err e) → LoadsTable old new n t records (Err e)
read_fault old new n t records faults.Memory h = tt
read_fault old new n t records faults.Device h = tt
read_fault old new n t records (faults.Refused refusal) h = h

-- records that are read touch no device
pub no_device : (t : Table) (records : List Record) (e : TableFault) (P : Type 0) → ReadsTable t records (Err e) → e ≡ faults.Device → P
no_device t records faults.Memory P h is = cc is
no_device t records faults.Device P h is = absurd h
no_device t records (faults.Refused refusal) P h is = cc is

pub loads_fault : (known : Option (List ℕ)) (bytes : List ℕ) (read : List ℕ → List Record) (old new : Stored) (n : ℕ) (t : Table) (e : TableFault) (r : Result (Unit {0}) TableFault) → r ≡ Err e
    → IfSome known (λ xs. bytes ≡ xs) → slice_get old.schema.tables n ≡ Some t → ReadsTable t (read bytes) (Err e) → IfSome known (λ xs. Loads old new n (read xs) r)
loads_fault None bytes read old new n t e r is same at h = tt
loads_fault (Some xs) bytes read old new n t e r is same at h =
    rw (← same, is) (at_some (slice_get old.schema.tables n) t (λ k. LoadsTable old new n k (read bytes) (Err e)) at (read_fault old new n t (read bytes) e h))

pub loads_rows : (known : Option (List ℕ)) (bytes : List ℕ) (read : List ℕ → List Record) (old new : Stored) (n : ℕ) (t : Table) (rows : List Row)
    → IfSome known (λ xs. bytes ≡ xs) → slice_get old.schema.tables n ≡ Some t → IsReported t (read bytes) (Ok rows) → new ≡ record { schema = old.schema; tables = set old.tables n rows }
    → IfSome known (λ xs. Loads old new n (read xs) (Ok (tt {0})))
loads_rows None bytes read old new n t rows same at h e = tt
loads_rows (Some xs) bytes read old new n t rows same at h e =
    rw (← same) (at_some (slice_get old.schema.tables n) t (λ k. LoadsTable old new n k (read bytes) (Ok (tt {0}))) at (rows, h, e))
