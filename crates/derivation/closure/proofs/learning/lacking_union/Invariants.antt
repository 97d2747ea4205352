use Rattle.std.proofs.Common.{ℕ, List, ◌++◌, Vec, Global, length}
use Rattle.std.specs.List.{AllByRecursion}
use Rattle.algebra.specs.Columns.{is_same_set}
use Rattle.props.specs.Knowledge.{known}
use Rattle.rules.specs.Matches.{line_in}
use Rattle.closure.specs.Learnt.{HasKeys}
use Rattle.closure.proofs.learning.lacking_union.Given as goal

-- none is lacking if none of those that are left is
abbrev pub invariant-keys : goal.invariant-keys
invariant-keys l =
    let All = λ (keys : List (Vec ℕ Global)). AllByRecursion (λ p. AllByRecursion (λ q. HasKeys l.instances (known l.classes) (line_in l.line) (λ L. is_same_set L (p.items ++ q.items))) l.others) keys in
    All l.keys → All l.fn.keys

abbrev pub decreases-keys : goal.decreases-keys
decreases-keys l = length l.keys
