use Rattle.std.proofs.Common.{subst}
use Rattle.lean_logs.specs.Growth.{Extends}
use Rattle.lean_logs.proofs.Growth.{extended_along}
use Rattle.explore.proofs.Along.{grown_along}
use Rattle.explore.proofs.exploring.pass_and_learn.Goals as goal

pub returns-clause-extends : goal.returns-clause-extends
returns-clause-extends c = extended_along _ _ _ _ c.pass.ensures.extends (subst (λ n. Extends n c.pass.new.memo.log c.learn_all.new.memo.log) c.pass.ensures.limit c.learn_all.ensures.extends)

pub returns-in_err-learn_all-clause-extends : goal.returns-in_err-learn_all-clause-extends
returns-in_err-learn_all-clause-extends c = extended_along _ _ _ _ c.pass.ensures.extends (subst (λ n. Extends n c.pass.new.memo.log c.learn_all.new.memo.log) c.pass.ensures.limit c.learn_all.ensures.extends)

pub returns-clause-lean : goal.returns-clause-lean
returns-clause-lean c = (grown_along _ _ _ _ _ (record { extends = c.pass.ensures.extends; lean = c.in_ok-pass.ensures.lean }) c.pass.ensures.limit c.learn_all.ensures.extends c.in_ok-learn_all.ensures.lean).lean
