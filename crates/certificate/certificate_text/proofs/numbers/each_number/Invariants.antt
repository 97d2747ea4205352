use Rattle.std.proofs.Common.{map, take, Ok, Some, None, if◌then◌else◌}
use Rattle.certificate_text.specs.Parts.{IsRead, SpellEach, AreShort}
use Rattle.certificate_text.proofs.numbers.each_number.Given as goal

-- the words so far are read
abbrev pub invariant-loop-word : goal.invariant-loop-word
invariant-loop-word l = IsRead SpellEach AreShort (take l.word-index (map (λ word. word.now) l.words)) (Ok (if l.in_range then Some l.numbers.items else None))
