use Rattle.physical.proofs.Deliveries.{plans_deliver}
use Rattle.physical.proofs.laws.plans_deliver.Goals as goal

pub returns : goal.returns
returns c = plans_deliver
