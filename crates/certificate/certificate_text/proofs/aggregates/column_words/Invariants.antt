use Rattle.certificate_text.proofs.NumberLists.{texts}
use Rattle.certificate_text.proofs.AggregateLists.{WordsSoFar}
use Rattle.certificate_text.proofs.aggregates.column_words.Given as goal

-- the words so far
abbrev pub invariant-loop-part : goal.invariant-loop-part
invariant-loop-part l = WordsSoFar l.parts l.part-index (texts l.words.items)
