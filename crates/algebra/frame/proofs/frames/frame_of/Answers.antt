use Rattle.std.proofs.Common.{sym, subst}
use Rattle.frame.specs.Frames as spec
use Rattle.frame.proofs.FrameMeaning.{frame_means}
use Rattle.frame.proofs.FrameSteps.{query_is}
use Rattle.frame.proofs.frames.frame_of.Goals as goal

pub returns-clause-lines : goal.returns-clause-lines
returns-clause-lines c = query_is c.args.query.now c.as_slice.result.now c.new-lines.result c.add_block.new.lines c.into_items.result c.as_slice.ensures c.new-lines.ensures c.in_ok-add_block.ensures.lines c.into_items.ensures

pub returns-clause-meaning : goal.returns-clause-meaning
returns-clause-meaning c bound =
    let is = query_is c.args.query.now c.as_slice.result.now c.new-lines.result c.add_block.new.lines c.into_items.result c.as_slice.ensures c.new-lines.ensures c.in_ok-add_block.ensures.lines c.into_items.ensures in
    subst (spec.FrameMeans c.args.query.now) (sym is) (frame_means c.args.query.now bound)
