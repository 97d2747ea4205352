use Rattle.std.proofs.Common.{ℕ, List, length}
use Rattle.std.specs.List.{AllByRecursion}
use Rattle.rules.specs.Matches.{line_in}
use Rattle.closure.specs.Places.{AgreesAt}
use Rattle.closure.proofs.pairs.disagreeing_among.Given as goal

-- all agree where those that are left do
abbrev pub invariant-lines : goal.invariant-lines
invariant-lines l =
    let All = λ (lines : List ℕ). AllByRecursion (AgreesAt l.log.log (line_in l.one)) lines in
    All l.lines → All l.fn.lines

abbrev pub decreases-lines : goal.decreases-lines
decreases-lines l = length l.lines
