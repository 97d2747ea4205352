use Rattle.std.proofs.Common.{◌≡◌, drop}
use Rattle.schema.proofs.Loops.{after}
use Rattle.binder.specs.Chained.{scopes_of}
use Rattle.binder.specs.Outputs.{items_in}
use Rattle.binder.proofs.output.outputs_of_items.Given as goal

abbrev pub invariant-loop-item : goal.invariant-loop-item
invariant-loop-item l =
    after l.outputs (items_in (scopes_of l.scopes) l.grouping.grouped l.grouping.keys.now l.number (drop l.item-index l.items))
    ≡ items_in (scopes_of l.scopes) l.grouping.grouped l.grouping.keys.now l.first_number l.items
