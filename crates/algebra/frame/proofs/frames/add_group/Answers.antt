use Rattle.std.proofs.Common.{◌≡◌, subst, List, OnOk}
use Rattle.algebra.specs.declared.expr.Expr.{Expr}
use Rattle.frame.proofs.FrameSteps.{group_is}
use Rattle.frame.proofs.frames.add_group.Goals as goal

pub returns : goal.returns
returns c =
    let q = c.args.block.now in
    let is = group_is q.grouped c.args.numbers.now q.keys c.as_slice.result.now q.items c.as_slice-2.result.now q.having_items c.as_slice-3.result.now c.in_ok-keys.keys c.new-added.result.items c.add_aggregations.new.added.items c.add_aggregations-2.new.added.items
    c.as_slice-4.result.now c.in_ok-added.added c.last-input.result c.args.lines.now c.if-not-block.false c.as_slice.ensures c.in_ok-keys.ensures c.new-added.ensures.items c.as_slice-2.ensures c.in_ok-add_aggregations.ensures c.as_slice-3.ensures c.in_ok-add_aggregations-2.ensures
    c.as_slice-4.ensures.value c.in_ok-added.ensures c.last-input.ensures in
    subst (λ (z : List Expr). OnOk c.push.result (c.push.new.self ≡ z)) is c.push.ensures
