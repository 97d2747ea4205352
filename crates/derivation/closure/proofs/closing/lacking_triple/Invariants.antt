use Rattle.std.proofs.Common.{◌≡◌, ℕ, true, List, [], ◌∷◌, length, Some}
use Rattle.std.specs.List.{AllByRecursion}
use Rattle.closure.specs.Lines.{has_result}
use Rattle.closure.proofs.closing.lacking_triple.Given as goal

-- all have results where those that are left have
abbrev pub invariant-lines : goal.invariant-lines
invariant-lines l =
    let All = λ (lines : List ℕ). AllByRecursion (λ n. has_result l.log.instances l.log.log l.rule 0 (l.top ∷ l.below ∷ n ∷ []) ≡ true) lines in
    All l.lines → All l.fn.lines

abbrev pub decreases-lines : goal.decreases-lines
decreases-lines l = length l.lines
