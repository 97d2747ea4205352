use Rattle.std.proofs.Common.{ℕ, List, ◌++◌, Vec, Global, length}
use Rattle.std.specs.List.{AllByRecursion}
use Rattle.algebra.specs.Columns.{is_same_set}
use Rattle.props.specs.Knowledge.{known}
use Rattle.rules.specs.Matches.{line_in}
use Rattle.closure.specs.Learnt.{HasKeys}
use Rattle.closure.proofs.learning.lacking_with.Given as goal

-- none is lacking if none of those that are left is
abbrev pub invariant-others : goal.invariant-others
invariant-others l =
    let All = λ (others : List (Vec ℕ Global)). AllByRecursion (λ q. HasKeys l.instances (known l.classes) (line_in l.line) (λ L. is_same_set L (l.one ++ q.items))) others in
    All l.others → All l.fn.others

abbrev pub decreases-others : goal.decreases-others
decreases-others l = length l.others
