use Rattle.std.proofs.Common.{◌≡◌, ◌++◌, flat_map, take, true}
use Rattle.std.specs.List.{AllByRecursion}
use Rattle.certificate_text.specs.CertificateText as spec
use Rattle.certificate_text.specs.Limits.{line_is_within}
use Rattle.certificate_text.specs.Readable.{IsReadableLine}
use Rattle.certificate_text.proofs.line_text.push_lines.Given as goal

abbrev pub invariant-loop-line : goal.invariant-loop-line
invariant-loop-line l = (l.text.items ≡ l.fn.text.items ++ flat_map spec.line_text (take l.line-index l.lines)) × AllByRecursion (λ k. line_is_within k ≡ true → IsReadableLine k) (take l.line-index l.lines)
