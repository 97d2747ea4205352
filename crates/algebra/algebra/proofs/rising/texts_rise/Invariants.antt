use Rattle.std.specs.Prelude.{string_bytes}
use Rattle.algebra.proofs.RisingLists.{TextsRiseTo, IsTextBefore}
use Rattle.algebra.proofs.rising.texts_rise.Given as goal

-- the texts so far rise, and the last of them is at hand
abbrev pub invariant-loop-place : goal.invariant-loop-place
invariant-loop-place l = TextsRiseTo l.conditions l.place × IsTextBefore (string_bytes l.last) l.conditions l.place
