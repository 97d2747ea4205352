use Rattle.std.proofs.Common.{◌≡◌, ◌++◌, take, string_bytes}
use Rattle.words.specs.Spelling as spec
use Rattle.words.specs.Spelling.{flat_map}
use Rattle.words.proofs.spelling.push_control.Given as goal

abbrev pub invariant-loop-byte : goal.invariant-loop-byte
invariant-loop-byte l = string_bytes l.text ≡ string_bytes l.fn.text ++ flat_map spec.spelled_byte (take l.byte-index l.bytes)
