use Rattle.std.proofs.Common.{◌≡◌, map, drop}
use Rattle.certificate_text.specs.Limits.{checked, line_is_within}
use Rattle.certificate_text.proofs.limits.check_lines.Given as goal

abbrev pub invariant-loop-line : goal.invariant-loop-line
invariant-loop-line l = checked l.first (map line_is_within l.lines) ≡ checked l.next (map line_is_within (drop l.line-index l.lines))
