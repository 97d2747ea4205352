use Rattle.std.proofs.Common.{◌≡◌, length}
use Rattle.std.specs.Prelude.{string_bytes}
use denote.Text.{Utf8}
use denote.Shadow.{shadow}
use Rattle.sql_parse.specs.Reading.{with, quoted_at}
use Rattle.sql_parse.proofs.lexer.quoted.Given as goal

abbrev pub invariant-loop-before : goal.invariant-loop-before
invariant-loop-before l = shadow (Utf8 l.rest) × (with (string_bytes l.value) (quoted_at l.rest) ≡ quoted_at l.fn.behind)

abbrev pub decreases-loop-before : goal.decreases-loop-before
decreases-loop-before l = length l.rest
