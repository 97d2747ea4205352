use Rattle.std.proofs.Common.{ℕ, List, length}
use Rattle.std.specs.List.{AllByRecursion}
use Rattle.props.specs.Knowledge.{known}
use Rattle.rules.specs.Matches.{line_in}
use Rattle.closure.specs.Learnt.{HasColumn}
use Rattle.closure.proofs.learning.lacking_column.Given as goal

-- none is lacking if none of those that are left is
abbrev pub invariant-columns : goal.invariant-columns
invariant-columns l =
    let All = λ (columns : List ℕ). AllByRecursion (HasColumn l.instances (known l.classes) (line_in l.line)) columns in
    All l.columns → All l.fn.columns

abbrev pub decreases-columns : goal.decreases-columns
decreases-columns l = length l.columns
