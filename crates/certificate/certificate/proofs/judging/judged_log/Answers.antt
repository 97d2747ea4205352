use Rattle.std.proofs.Common.{◌≡◌, ◌∙◌, ap, ◌<◌, ◌-◌, [], length, reverse, arith}
use Rattle.frame.specs.Frames.{query_frame}
use Rattle.frame.proofs.FormedQueries.{frames_formed}
use Rattle.certificate.proofs.Founded.{turned}
use Rattle.certificate.proofs.ReplayedLines.{certificate_replays}
use Rattle.certificate.proofs.judging.judged_log.Goals as goal

pub overflow_sub-last : goal.overflow_sub-last
overflow_sub-last c =
    let some : 0 < length (query_frame c.args.query.now) = (frames_formed c.args.query.now c.requires.bound).some in
    rw (c.requires.frame) (omega (arith, some))

pub returns-clause-verdict : goal.returns-clause-verdict
returns-clause-verdict c =
    certificate_replays c.args.query.now c.args.certificate.now c.as_slice-lines.result.now c.in_ok-log.log.log c.as_slice-lines.ensures c.in_ok-log.ensures.verdict c.in_ok-fit.ensures

pub returns-clause-lines : goal.returns-clause-lines
returns-clause-lines c = turned c.args.query.now c.as_slice-lines.result.now [] c.in_ok-log.log.log c.in_ok-log.ensures.verdict ∙ ap reverse c.as_slice-lines.ensures
