use Rattle.std.proofs.Common.{◌∙◌, sym, arith}
use Rattle.store.proofs.ColumnRows.{taken_back, nothing_left}
use Rattle.store.proofs.columns.take_back.Goals as goal

pub loop-taken-preserved : goal.loop-taken-preserved
loop-taken-preserved c = λ before row is long.
    taken_back c.args.places c.loop-taken.taken before row c.loop-taken.columns c.index-columns-places.result c.pop.new.self (omega arith) (omega arith) long c.index-columns-places.is (λ b v e. c.pop.ensures b v (sym c.index-columns-places.is ∙ e)) (c.loop-taken.invariant before row is long)

pub returns : goal.returns
returns c = λ before row is long.
    nothing_left c.args.places c.loop-taken.taken before row c.loop-taken.columns (omega arith) (c.loop-taken.invariant before row is long)
