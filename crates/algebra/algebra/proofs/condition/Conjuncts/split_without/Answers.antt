use Rattle.std.proofs.Common.{}
use Rattle.algebra.proofs.ConjunctSplits.{are_part}
use Rattle.algebra.proofs.condition.Conjuncts.split_without.Goals as goal

pub from_items-requires : goal.from_items-requires
from_items-requires c = are_part _ _ _ _ c.in_ok-part.ensures.0 c.as_slice.ensures.conditions c.as_slice.ensures.conjuncts

pub from_items-requires-2 : goal.from_items-requires-2
from_items-requires-2 c = are_part _ _ _ _ c.in_ok-part.ensures.1 c.as_slice.ensures.conditions c.as_slice.ensures.conjuncts
