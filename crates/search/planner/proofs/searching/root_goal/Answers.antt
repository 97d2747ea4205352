use Rattle.std.proofs.Common.{◌<◌, length, arith}
use Rattle.frame.specs.Frames.{query_frame}
use Rattle.frame.proofs.FormedQueries.{frames_formed}
use Rattle.planner.proofs.searching.root_goal.Goals as goal

pub overflow_sub-frame : goal.overflow_sub-frame
overflow_sub-frame c =
    let some : 0 < length (query_frame c.args.query.now) = (frames_formed c.args.query.now c.query-query.ensures.bound).some in
    rw (c.frame.ensures) (omega (arith, some))
