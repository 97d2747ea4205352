use Rattle.std.proofs.Common.{◌≡◌, ◌↔◌, IsTrue, rules}
use Rattle.algebra.proofs.Same.{tested_conditions}
use Rattle.algebra.proofs.condition.Conjuncts.same.Goals as goal

pub returns-clause-test : goal.returns-clause-test
returns-clause-test c = let is : IsTrue c.same_all.result ↔ (c.args.self.now ≡ c.args.other.now) = search rules in tested_conditions _ _ _ is
