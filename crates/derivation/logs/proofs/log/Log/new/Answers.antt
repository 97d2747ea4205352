use Rattle.std.proofs.Common.{sym, subst, reverse}
use Rattle.derivation.specs.Replay.{Replays}
use Rattle.logs.specs.Knowledge.{IsKnown}
use Rattle.logs.specs.Members.{AreAdditions}
use Rattle.logs.proofs.log.Log.new.Goals as goal

pub invariant_of-result : goal.invariant_of-result
invariant_of-result c =
    subst (λ lines. Replays c.args.instances.now c.args.own.now (reverse lines) × IsKnown c.args.instances.now (reverse lines) c.new-2.result × AreAdditions (reverse lines) c.new-3.result) (sym c.new.ensures.items) (tt, c.new-2.ensures c.args.instances.now, c.new-3.ensures)
