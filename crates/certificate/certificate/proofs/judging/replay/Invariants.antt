use Rattle.std.proofs.Common.{◌≡◌, length, drop, []}
use Rattle.frame.specs.FormedFrames.{own_aggregates}
use Rattle.certificate.specs.Replay.{lines_replay}
use Rattle.certificate.proofs.judging.replay.Given as goal

abbrev pub invariant-loop-line : goal.invariant-loop-line
invariant-loop-line l = record {
  left : lines_replay l.query [] l.lines ≡ lines_replay l.query l.log.log (drop l.line-index l.lines);
  instances : l.log.instances ≡ l.query.tables;
  own : l.log.own ≡ own_aggregates l.query;
  count : length l.log.log ≡ l.line-index;
}
