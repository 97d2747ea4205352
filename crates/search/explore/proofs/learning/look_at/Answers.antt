use Rattle.std.proofs.Common.{}
use Rattle.explore.proofs.Along.{grown_at_first, where_ok}
use Rattle.explore.proofs.learning.look_at.Goals as goal

pub returns-clause-lean : goal.returns-clause-lean
returns-clause-lean c = where_ok _ c.in_ok-learn_of.ensures.lean

pub returns-then-not-is_due-clause-lean : goal.returns-then-not-is_due-clause-lean
returns-then-not-is_due-clause-lean c = where_ok _ (grown_at_first _ _).lean
