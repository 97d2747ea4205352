use Rattle.std.proofs.Common.{◌≡◌, ◌++◌, take, codes, string_bytes}
use Rattle.words.specs.Spelling as spec
use Rattle.words.specs.Spelling.{flat_map}
use Rattle.words.proofs.spelling.quoted.Given as goal

abbrev pub invariant-loop-byte : goal.invariant-loop-byte
invariant-loop-byte l = string_bytes l.line ≡ codes "\"" ++ flat_map spec.spelled_byte (take l.byte-index l.bytes)
