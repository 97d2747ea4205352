use Rattle.std.proofs.Common.{subst, Option, MatchOption}
use Rattle.relations.specs.Relations.{env_of}
use Rattle.joins.specs.declared.hashed.HashedRows.{HashedRows}
use Rattle.joins.specs.Keys.{IsHashed}
use Rattle.joins.proofs.hashed.keyed_rows.Goals as goal

pub returns-in-Some : goal.returns-in-Some
returns-in-Some c =
    let C = c.args.conditions.now in
    let left = c.args.left.now in
    let right = c.args.right.now in
    let e = env_of c.args.env.now in
    c.into_keyed.ensures C left right e (subst (λ (o : Option HashedRows). MatchOption o (Unit {0}) (IsHashed C left right e)) c.in-Some.is c.in_ok-table.ensures)
