use Rattle.std.proofs.Common.{◌≡◌, ◌↔◌, IsTrue, rules}
use Rattle.algebra.specs.Expressions.{columns_of}
use Rattle.algebra.specs.GivenColumns.{given_columns}
use Rattle.algebra.proofs.Same.{tested_columns}
use Rattle.logs.proofs.judge.Behind.has_columns.Goals as goal

pub returns : goal.returns
returns c =
    let columns = given_columns c.args.self.classes.columns in
    let is : IsTrue c.eq.result ↔ (columns_of c.args.self.instances.now columns c.args.expr.now ≡ columns c.args.class) = search rules in
    tested_columns _ _ _ is
