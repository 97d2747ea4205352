use Rattle.std.proofs.Common.{◌≡◌, ◌+◌, drop}
use Rattle.std.specs.List.{prefix_len}
use Rattle.sql_parse.specs.Reading.{has}
use Rattle.sql_parse.proofs.lexer.run_len.Given as goal

abbrev pub invariant-loop-i : goal.invariant-loop-i
invariant-loop-i l = l.i + prefix_len (has l.fn.class) (drop l.i l.bytes) ≡ prefix_len (has l.fn.class) l.bytes
