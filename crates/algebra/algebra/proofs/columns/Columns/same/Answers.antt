use Rattle.std.proofs.Common.{◌≡◌, ◌↔◌, IsTrue, rules}
use Rattle.algebra.proofs.Same.{tested_columns}
use Rattle.algebra.proofs.columns.Columns.same.Goals as goal

pub returns-clause-test : goal.returns-clause-test
returns-clause-test c = let is : IsTrue c.eq.result ↔ (c.args.self.now ≡ c.args.other.now) = search rules in tested_columns _ _ _ is
