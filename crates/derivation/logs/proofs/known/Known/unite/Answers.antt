use Rattle.std.proofs.Common.{sym, ◌∙◌, arith}
use Rattle.logs.proofs.MovedSets.{united-as}
use Rattle.logs.proofs.known.Known.unite.Goals as goal

pub put_idle-requires-clause-step : goal.put_idle-requires-clause-step
put_idle-requires-clause-step c = record { sets = c.in_ok-unite.ensures.sets; columns = c.requires.step.columns ∙ sym c.in_ok-unite.ensures.count; free = omega (arith, c.requires.step.free, c.in_ok-unite.ensures.count) }

pub returns-clause-united : goal.returns-clause-united
returns-clause-united c = united-as c.args.self.now.sets c.unite.new.self c.put_idle.new.self.sets c.args.first c.args.second c.in_ok-unite.ensures.united c.put_idle.ensures.roots c.put_idle.ensures.facts
