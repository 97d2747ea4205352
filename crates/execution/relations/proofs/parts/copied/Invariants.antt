use Rattle.std.proofs.Common.{length, take}
use Rattle.relations.specs.MadeColumns.{made_rows}
use Rattle.relations.proofs.CopiedCells.{AreCopied}
use Rattle.relations.proofs.parts.copied.Given as goal

abbrev pub invariant-loop-number : goal.invariant-loop-number
invariant-loop-number l = AreCopied (length l.numbers) (made_rows l.column) (made_rows l.copies) l.places.items (take l.number-index l.numbers)
