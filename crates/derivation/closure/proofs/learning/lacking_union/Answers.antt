use Rattle.std.proofs.Common.{subst, ℕ, List, ◌++◌, Vec, Global}
use Rattle.std.specs.List.{AllByRecursion}
use Rattle.algebra.specs.Columns.{is_same_set}
use Rattle.props.specs.Knowledge.{known}
use Rattle.rules.specs.Matches.{line_in}
use Rattle.closure.specs.Learnt.{HasKeys}
use Rattle.closure.proofs.LackedFacts.{all_from, none_told}
use Rattle.closure.proofs.learning.lacking_union.Goals as goal

pub keys-preserved : goal.keys-preserved
keys-preserved c =
    let Has : List ℕ → Type 0 = λ p. AllByRecursion {X = Vec ℕ Global} (λ q. HasKeys c.args.instances.now (known c.args.classes) (line_in c.args.line) (λ L. is_same_set L (p ++ q.items))) c.args.others.now in
    λ rest. c.keys.invariant (all_from (λ (p : Vec ℕ Global). Has p.items) c.keys.keys.now c.key-item.result c.in-len1-up.len_at_least c.key-item.is
    (subst Has c.as_slice.ensures.value (none_told c.args.instances.now (known c.args.classes) (line_in c.args.line) _ c.in_ok-fact.field-0 c.in_default-2.is c.in_ok-fact.ensures)) rest)
