use Rattle.std.proofs.Common.{◌≡◌, ◌↔◌, IsTrue, rules}
use Rattle.algebra.proofs.Same.{tested_expr}
use Rattle.algebra.proofs.expr.Expr.same.Goals as goal

pub returns-clause-test : goal.returns-clause-test
returns-clause-test c = let is : IsTrue c.is_same.result ↔ (c.args.self.now ≡ c.args.other.now) = search rules in tested_expr _ _ _ is
