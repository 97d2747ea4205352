use Rattle.std.proofs.Common.{}
use Rattle.props.specs.Knowledge.{root_in}
use Rattle.costs.specs.Cardinalities.{ShareRows}
use Rattle.costs.proofs.cardinalities.shared_rows.Given as goal

abbrev pub invariant-loop-class : goal.invariant-loop-class
invariant-loop-class l = ShareRows (root_in l.classes.sets.now l.classes.roots.now) l.own l.class l.rows.items
