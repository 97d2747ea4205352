use Rattle.std.proofs.Common.{◌≡◌, List, ◌++◌, flat_map, length}
use Rattle.std.specs.List.{AllByRecursion}
use Rattle.certificate_text.specs.CertificateText.{Text}
use Rattle.certificate_read.proofs.TextLists.{SoFar}
use Rattle.labels.specs.declared.goal.Label.{Label}
use Rattle.label_text.specs.LabelText.{IsReadableLabel, label_text}
use Rattle.label_text.proofs.LabelLines.{LabelsSoFar}
use Rattle.label_text.proofs.reading.labels.Given as goal

-- the labels so far are read
abbrev pub invariant-loop-done : goal.invariant-loop-done
invariant-loop-done l = ((ls : List Label) (rest : Text) → AllByRecursion IsReadableLabel ls → length ls ≡ l.count → l.initial.text.left.now ≡ flat_map label_text ls ++ rest → SoFar label_text IsReadableLabel ls rest l.text.left.now l.labels l._done)
    × LabelsSoFar l.count l.labels l.initial.text l.text l._done
