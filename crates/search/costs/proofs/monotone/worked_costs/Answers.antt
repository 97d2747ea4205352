use Rattle.std.proofs.Common.{}
use Rattle.costs.proofs.Worked.{worked_plan, worked_indexes}
use Rattle.costs.proofs.monotone.worked_costs.Goals as goal

pub returns : goal.returns
returns c = record { plan = worked_plan; indexes = worked_indexes }
