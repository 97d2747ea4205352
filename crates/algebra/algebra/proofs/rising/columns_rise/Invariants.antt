use Rattle.algebra.proofs.RisingLists.{ColumnsRiseTo}
use Rattle.algebra.proofs.rising.columns_rise.Given as goal

abbrev pub invariant-loop-place : goal.invariant-loop-place
invariant-loop-place l = ColumnsRiseTo l.added l.place
