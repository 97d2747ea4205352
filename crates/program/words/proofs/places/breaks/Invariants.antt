use Rattle.std.proofs.Common.{◌≡◌, ◌≤◌, take, count_by}
use Rattle.words.specs.Places.{is_break}
use Rattle.words.proofs.places.breaks.Given as goal

abbrev pub invariant-loop-byte : goal.invariant-loop-byte
invariant-loop-byte l = (l.count ≡ count_by is_break (take l.byte-index l.text)) × (l.count ≤ l.byte-index)
