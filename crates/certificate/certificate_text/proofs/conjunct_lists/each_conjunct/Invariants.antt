use Rattle.certificate_text.proofs.ConjunctLists.{SoFar}
use Rattle.certificate_text.proofs.NumberLists.{texts}
use Rattle.certificate_text.proofs.conjunct_lists.each_conjunct.Given as goal

-- the parts so far are read
abbrev pub invariant-loop-place : goal.invariant-loop-place
invariant-loop-place l = SoFar l.room (texts l.parts) l.place l.read.conditions l.read.last.now l.read.in_range
