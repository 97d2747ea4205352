use Rattle.std.proofs.Common.{}
use Rattle.lean_logs.specs.Growth.{Extends, IsServedBut}
use Rattle.lean_logs.proofs.lean_log.LeanLog.append_served.Given as goal

abbrev pub invariant-loop-line : goal.invariant-loop-line
invariant-loop-line l = IsServedBut l.waiting.items l.fn.self l.self × Extends l.limit l.fn.self l.self
