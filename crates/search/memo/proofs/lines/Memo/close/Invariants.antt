use Rattle.std.proofs.Common.{◌≡◌}
use Rattle.lean_logs.specs.Founding.{TellsNew}
use Rattle.memo.proofs.lines.Memo.close.Given as goal

abbrev pub invariant-loop : goal.invariant-loop
invariant-loop l = TellsNew l.fn.self.limit l.fn.self.log l.self.log × (l.self.limit ≡ l.fn.self.limit)
