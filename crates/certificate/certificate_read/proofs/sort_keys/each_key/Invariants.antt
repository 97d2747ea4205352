use Rattle.std.proofs.Common.{take}
use Rattle.certificate_text.proofs.NumberLists.{texts}
use Rattle.certificate_text.proofs.PartLists.{EachSoFar}
use Rattle.certificate_text.specs.Readable.{IsShortKey}
use Rattle.certificate_read.specs.NodeReading.{key_text}
use Rattle.certificate_read.proofs.sort_keys.each_key.Given as goal

-- the keys so far are read
abbrev pub invariant-loop-part : goal.invariant-loop-part
invariant-loop-part l = EachSoFar key_text IsShortKey (take l.part-index (texts l.parts)) l.in_range l.keys
