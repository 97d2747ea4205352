use Rattle.std.proofs.Common.{◌≡◌, string_bytes}
use Rattle.words.specs.Spelling as spec
use Rattle.words.specs.Spelling.{flat_map}
use Rattle.words.proofs.spelling.readable.Given as goal

abbrev pub invariant-loop-character : goal.invariant-loop-character
invariant-loop-character l = string_bytes l.said ≡ flat_map spec.readable_character l.yielded
