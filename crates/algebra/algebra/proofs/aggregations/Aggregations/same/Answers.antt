use Rattle.std.proofs.Common.{◌≡◌, ◌↔◌, IsTrue, rules}
use Rattle.algebra.proofs.Same.{tested_aggregations}
use Rattle.algebra.proofs.aggregations.Aggregations.same.Goals as goal

pub returns-clause-test : goal.returns-clause-test
returns-clause-test c = let is : IsTrue c.are_same.result ↔ (c.args.self.now ≡ c.args.other.now) = search rules in tested_aggregations _ _ _ is
