use Rattle.std.proofs.Common.{◌≡◌, ℕ, true, List, [], ◌∷◌, length, Some}
use Rattle.std.specs.List.{AllByRecursion}
use Rattle.closure.specs.Lines.{HasPairs}
use Rattle.closure.proofs.closing.lacking_class.Given as goal

-- all have results where those that are left have
abbrev pub invariant-classes : goal.invariant-classes
invariant-classes l =
    let All = λ (classes : List ℕ). AllByRecursion (λ g. HasPairs l.log.instances l.log.log l.rule g l.top (Some g)) classes in
    All l.classes → All l.fn.classes

abbrev pub decreases-classes : goal.decreases-classes
decreases-classes l = length l.classes
