use Rattle.certificate_text.proofs.NumberLists.{texts}
use Rattle.certificate_text.proofs.ColumnLists.{RiseTo}
use Rattle.certificate_text.proofs.column_lists.are_rising.Given as goal

-- each word so far is below the next
abbrev pub invariant-loop-place : goal.invariant-loop-place
invariant-loop-place l = RiseTo (texts l.words) l.place
