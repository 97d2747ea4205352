use Rattle.std.proofs.Common.{ap, ◌∙◌}
use Rattle.derivation.specs.Logs.{knowledge}
use Rattle.logs.specs.Logged.{Logged}
use Rattle.logs.proofs.log.Log.classes.Goals as goal

pub returns-clause-known : goal.returns-clause-known
returns-clause-known c = c.classes.ensures.known ∙ c.self.invariant.1.known ∙ ap (λ (l : Logged). knowledge l.instances l.log) c.self.view_is
