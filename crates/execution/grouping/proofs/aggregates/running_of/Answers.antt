use Rattle.std.proofs.Common.{sym, subst, arith}
use Rattle.values.specs.Cells.{value_of}
use Rattle.query.specs.Aggregates.{MayRead}
use Rattle.grouping.proofs.aggregates.running_of.Goals as goal

pub add-requires-clause-few : goal.add-requires-clause-few
add-requires-clause-few c = omega (arith, c.new-running.ensures.rows)

pub add-requires-clause-read : goal.add-requires-clause-read
add-requires-clause-read c = subst (λ a. MayRead a (λ place. value_of c.args.cell)) (sym c.new-running.ensures.of) c.requires
