use Rattle.std.proofs.Common.{◌≡◌, ◌+◌, ◌∙◌, sym, true, false, if◌then◌else◌, arith, rules}
use Rattle.std.proofs.lemmas.Result.{err_from_is_err_and}
use Rattle.binder.specs.Chained.{scopes_of}
use Rattle.binder.specs.Outputs.{is_aggregate, items_in}
use Rattle.binder.proofs.OutputLoops.{items_on, items_end, items_done}
use Rattle.binder.proofs.output.outputs_of_items.Goals as goal
use Rattle.binder.proofs.output.outputs_of_items.Goals.{then-is_aggregate+in_ok-number, else-is_aggregate}

pub returns-in_err-output_of : goal.returns-in_err-output_of
returns-in_err-output_of c =
    let p = err_from_is_err_and c.from_residual.result c.from_residual.ensures.1 in
    let g = c.args.grouping in
    let scopes = scopes_of c.args.scopes.now in
    rw (p.1, p.2) (items_end scopes g.grouped g.keys.now c.loop-item.number c.in_err-output_of.field-0.0 c.loop-item.outputs c.args.items.now c.loop-item.item-index c.item-item.result (items_in scopes g.grouped g.keys.now c.args.first_number c.args.items.now) (omega arith) c.item-item.is c.in_err-output_of.ensures c.loop-item.invariant)

pub loop-item-preserved : goal.loop-item-preserved
loop-item-preserved c =
    let g = c.args.grouping in
    let scopes = scopes_of c.args.scopes.now in
    let next : c.if-is_aggregate.number ≡ (if is_aggregate c.item-item.result then c.loop-item.number + 1 else c.loop-item.number) =
    elim c.if-is_aggregate.branch [
      | then-is_aggregate+in_ok-number w ↦
          let yes : is_aggregate c.item-item.result ≡ true = sym c.is_aggregate.ensures ∙ w.if-is_aggregate.true in
          let one : w.in_ok-number.number ≡ c.loop-item.number + 1 = search rules in
          rw yes (w.number-is ∙ one)
      | else-is_aggregate w ↦
          let no : is_aggregate c.item-item.result ≡ false = sym c.is_aggregate.ensures ∙ w.if-is_aggregate.false in
          rw no w.number-is
    ] in
    rw (next, c.in_ok-push.ensures.ok) (items_on scopes g.grouped g.keys.now c.loop-item.number c.loop-item.outputs c.args.items.now c.loop-item.item-index c.item-item.result c.in_ok-output_of.field-0 (items_in scopes g.grouped g.keys.now c.args.first_number c.args.items.now) (omega arith) c.item-item.is c.in_ok-output_of.ensures c.loop-item.invariant)

pub returns : goal.returns
returns c =
    let g = c.args.grouping in
    let scopes = scopes_of c.args.scopes.now in
    items_done scopes g.grouped g.keys.now c.loop-item.number c.loop-item.outputs c.args.items.now c.loop-item.item-index (items_in scopes g.grouped g.keys.now c.args.first_number c.args.items.now) (omega arith) c.loop-item.invariant
