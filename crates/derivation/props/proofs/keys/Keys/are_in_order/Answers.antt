use Rattle.std.proofs.Common.{sym}
use Rattle.props.specs.Keys.{came}
use Rattle.props.proofs.KeySets.{in-order-again}
use Rattle.props.proofs.keys.Keys.are_in_order.Goals as goal

pub returns : goal.returns
returns c = rw c.self.view_is at (sym (in-order-again (came c.self.inside.table)))
