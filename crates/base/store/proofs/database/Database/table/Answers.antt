use Rattle.std.proofs.Common.{◌≡◌, length, ap, arith}
use Rattle.schema.specs.Databases.{Stored}
use Rattle.store.proofs.Satisfies.{satisfy_few}
use Rattle.store.proofs.database.Database.table.Goals as goal

pub returns-clause-few : goal.returns-clause-few
returns-clause-few c =
    let at : length c.self.inside.tables.items ≡ length c.args.self.now.tables = ap (λ (s : Stored). length s.tables) c.self.view_is in
    satisfy_few c.self.inside.schema.now.tables c.self.inside.tables.items c.args.number c.index.result.now c.self.invariant (omega arith) c.index.ensures
