use Rattle.std.proofs.Common.{◌≡◌, ℕ, reverse, take}
use Rattle.std.specs.List.{sum_by}
use Rattle.derivation.specs.Logs.{member}
use Rattle.logs.specs.Members.{once_of}
use Rattle.logs.specs.Sets.{times}
use Rattle.logs.proofs.class_lines.lines_of.Given as goal

abbrev pub invariant-loop-class : goal.invariant-loop-class
invariant-loop-class l = (n : ℕ) → times n l.found.items ≡ sum_by (once_of (member (reverse l.lines) n)) (take l.class-index l.classes)
