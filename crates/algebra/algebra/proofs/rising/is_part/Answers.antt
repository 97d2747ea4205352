use Rattle.std.proofs.Common.{refl, subst}
use Rattle.std.proofs.lemmas.Bool.{false≢true}
use Rattle.algebra.specs.ConjunctOrder.{IsPart}
use Rattle.algebra.proofs.ConjunctLists.{one-part, and-is-no-part}
use Rattle.algebra.proofs.rising.is_part.Goals as goal

pub returns-in-And : goal.returns-in-And
returns-in-And c = (λ t. absurd (false≢true t), λ one. absurd (and-is-no-part _ _ _ (subst IsPart c.in-And.is one)))

pub returns-in_default : goal.returns-in_default
returns-in_default c = (λ t. one-part c.args.condition.now c.in_default.not-And, λ one. refl)
