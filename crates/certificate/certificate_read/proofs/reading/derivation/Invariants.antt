use Rattle.std.proofs.Common.{◌≡◌, List, ◌++◌, flat_map, length}
use Rattle.std.specs.List.{AllByRecursion}
use Rattle.derivation.specs.declared.line.Line.{Line}
use Rattle.certificate_text.specs.CertificateText.{Text, line_text}
use Rattle.certificate_text.specs.Readable.{IsReadableLine}
use Rattle.certificate_read.proofs.DerivationLines.{LinesSoFar}
use Rattle.certificate_read.proofs.TextLists.{SoFar}
use Rattle.certificate_read.proofs.reading.derivation.Given as goal

-- the lines so far are read
abbrev pub invariant-loop-done : goal.invariant-loop-done
invariant-loop-done l = ((ls : List Line) (rest : Text) → AllByRecursion IsReadableLine ls → length ls ≡ l.count → l.initial.text.left.now ≡ flat_map line_text ls ++ rest → SoFar line_text IsReadableLine ls rest l.text.left.now l.lines l._done)
    × LinesSoFar l.count l.lines l.initial.text l.text l._done
