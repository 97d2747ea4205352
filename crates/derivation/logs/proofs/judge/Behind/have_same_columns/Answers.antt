use Rattle.std.proofs.Common.{◌≡◌, ◌↔◌, IsTrue, rules}
use Rattle.algebra.specs.GivenColumns.{given_columns}
use Rattle.algebra.proofs.Same.{tested_columns}
use Rattle.logs.proofs.judge.Behind.have_same_columns.Goals as goal

pub returns : goal.returns
returns c =
    let columns = given_columns c.args.self.classes.columns in
    let is : IsTrue c.eq.result ↔ (columns c.args.first ≡ columns c.args.second) = search rules in
    tested_columns _ _ _ is
