use Rattle.std.proofs.Common.{ℕ, Option, subst}
use Rattle.derivation.specs.Logs.{knowledge}
use Rattle.closure.specs.Operators.{StandsAs}
use Rattle.closure.proofs.Unique.{stands_there, stands_nowhere}
use Rattle.closure.proofs.standing.is_there.Goals as goal

pub returns-in-Some : goal.returns-in-Some
returns-in-Some c =
    stands_there c.args.log.now.instances c.args.log.now.log c.requires.united c.args.shape.now c.in-Some.found c.args.class _
    (subst (λ (o : Option ℕ). StandsAs (knowledge c.args.log.now.instances c.args.log.now.log) c.args.log.now.log c.args.shape.now o) c.in-Some.is c.in_ok-found.ensures) c.are_same.ensures

pub returns-in-None : goal.returns-in-None
returns-in-None c =
    stands_nowhere c.args.log.now.instances c.args.log.now.log c.requires.united c.args.shape.now c.args.class
    (subst (λ (o : Option ℕ). StandsAs (knowledge c.args.log.now.instances c.args.log.now.log) c.args.log.now.log c.args.shape.now o) c.in-None.is c.in_ok-found.ensures)
