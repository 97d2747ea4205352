use Rattle.binder.proofs.Naming.{shown-place}
use Rattle.binder.proofs.ordering.item_shown.Goals as goal

pub returns-in-None : goal.returns-in-None
returns-in-None c =
    let shown = rw c.in-None.is at c.first_place.ensures in
    rw c.refused.ensures (rw (← shown) at (shown-place c.args.at c.args.column c.args.outputs.now))

pub returns-in-Some : goal.returns-in-Some
returns-in-Some c =
    let shown = rw c.in-Some.is at c.first_place.ensures in
    rw (← shown) at (shown-place c.args.at c.args.column c.args.outputs.now)
