use Rattle.algebra.proofs.Same.{tested_condition}
use Rattle.algebra.proofs.conjunct_order.Spelt.same.Goals as goal

pub returns : goal.returns
returns c = tested_condition c.same.result c.args.self.now c.args.other.now (rw (c.self.view_is, c.other.view_is) at c.same.ensures)
