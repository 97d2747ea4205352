use Rattle.std.proofs.Common.{◌≡◌, ◌↔◌, IsTrue, rules}
use Rattle.algebra.proofs.Same.{tested_aggregation}
use Rattle.algebra.proofs.expr.Aggregation.same.Goals as goal

pub returns-clause-test : goal.returns-clause-test
returns-clause-test c = let is : IsTrue c.eq.result ↔ (c.args.self ≡ c.args.other) = search rules in tested_aggregation _ _ _ is
