use Rattle.std.proofs.Common.{◌≡◌, ◌∙◌, length, Err, ap, arith}
use Rattle.std.proofs.Math.ListN.{set}
use Rattle.std.proofs.lemmas.Result.{err_from_is_err_and}
use Rattle.schema.specs.Databases.{Stored}
use Rattle.store.specs.Tables.{records_of}
use Rattle.store.proofs.Satisfies.{satisfy_length, satisfy_set, no_device, loads_fault, loads_rows}
use Rattle.store.proofs.database.Database.load.Goals as goal

pub entry_of-entry-requires : goal.entry_of-entry-requires
entry_of-entry-requires g c =
    let at : length c.self.inside.tables.items ≡ length c.args.self.now.tables = ap (λ (s : Stored). length s.tables) c.self.view_is in
    let same = satisfy_length c.self.inside.schema.now.tables c.self.inside.tables.items c.self.invariant in
    omega arith

pub returns-in_err-loaded-clause-exact : goal.returns-in_err-loaded-clause-exact
returns-in_err-loaded-clause-exact g c =
    let p = err_from_is_err_and c.from_residual.result c.from_residual.ensures.1 in
    let at = rw (ap (λ (s : Stored). s.schema) c.self.view_is) at c.entry_of-entry.ensures in
    let (bytes, file, same) = rw c.as_slice.ensures at c.in-Ok.ensures.read in
    loads_fault (g.R.TableInput.remaining c.args.input.now) bytes records_of c.args.self.now c.args.self.now c.args.table c.entry_of-entry.result.now c.in_err-loaded.field-0.0 c.from_residual.result
    (p.1 ∙ ap Err p.2) same at (c.in_err-loaded.ensures (records_of bytes) file)

pub returns-in_err-loaded-clause-device : goal.returns-in_err-loaded-clause-device
returns-in_err-loaded-clause-device g c =
    let p = err_from_is_err_and c.from_residual.result c.from_residual.ensures.1 in
    let (bytes, file, same) = rw c.as_slice.ensures at c.in-Ok.ensures.read in
    rw (p.1 ∙ ap Err p.2) (no_device c.entry_of-entry.result.now (records_of bytes) c.in_err-loaded.field-0.0 _ (c.in_err-loaded.ensures (records_of bytes) file))

pub invariant_of-self : goal.invariant_of-self
invariant_of-self g c =
    let (bytes, file, same) = rw c.as_slice.ensures at c.in-Ok.ensures.read in
    satisfy_set c.self.inside.schema.now.tables c.self.inside.tables.items c.args.table c.entry_of-entry.result.now c.in_ok-loaded.loaded c.self.invariant c.entry_of-entry.ensures (c.in_ok-loaded.ensures (records_of bytes) file).reported.satisfies

pub returns-clause-exact : goal.returns-clause-exact
returns-clause-exact g c =
    let at = rw (ap (λ (s : Stored). s.schema) c.self.view_is) at c.entry_of-entry.ensures in
    let (bytes, file, same) = rw c.as_slice.ensures at c.in-Ok.ensures.read in
    loads_rows (g.R.TableInput.remaining c.args.input.now) bytes records_of c.args.self.now _ c.args.table c.entry_of-entry.result.now c.in_ok-loaded.loaded
    same at (c.in_ok-loaded.ensures (records_of bytes) file) (ap (λ (s : Stored). let n : Stored = record { schema = s.schema; tables = set s.tables c.args.table c.in_ok-loaded.loaded } in n) c.self.view_is)

pub returns-clause-replaced : goal.returns-clause-replaced
returns-clause-replaced g c = (c.in_ok-loaded.loaded, ap (λ (s : Stored). let n : Stored = record { schema = s.schema; tables = set s.tables c.args.table c.in_ok-loaded.loaded } in n) c.self.view_is)
