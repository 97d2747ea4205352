use Rattle.std.proofs.Common.{◌≡◌, reverse, take}
use Rattle.planner.proofs.query_logs.log_of.Given as goal

-- the log has the lines so far
abbrev pub invariant-loop-line : goal.invariant-loop-line
invariant-loop-line l = l.log ≡ record { instances = l.instances; own = l.own; log = reverse (take l.line-index l.lines) }
