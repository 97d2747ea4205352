-- Plans that may be run.
use Rattle.std.specs.Prelude.{◌≡◌, true, List, map}
use Rattle.query.specs.declared.query.TableInstance.{TableInstance}
use Rattle.physical.specs.declared.plan.Operator.{Operator}
use Rattle.physical.specs.declared.plan.Plan.{Plan}
use Rattle.physical.specs.Origins.{all_read, operator_reads, plan_origin}
use Rattle.physical.specs.RequiredOrders.{all_sorted, are_sorted, plan_supply}

-- the groups of a plan aggregate values of tables alone, and its nodes get the orders that they require
pub record IsRunnable (instances : List TableInstance) (plan : Plan) : Type 0 where
  pub reads : (plan_origin instances plan).reads ≡ true
  pub sorted : (plan_supply instances plan).sorted ≡ true

-- so it is of all inputs
pub record AreRunnable (instances : List TableInstance) (inputs : List Plan) : Type 0 where
  pub reads : all_read (map (plan_origin instances) inputs) ≡ true
  pub sorted : all_sorted (map (plan_supply instances) inputs) ≡ true

-- an operator aggregates values of tables alone, and gets the orders that it requires
pub record IsOperable (instances : List TableInstance) (operator : Operator) (inputs : List Plan) : Type 0 where
  pub reads : operator_reads instances operator (map (plan_origin instances) inputs) ≡ true
  pub sorted : are_sorted operator (map (λ x. x.columns) (map (plan_supply instances) inputs)) (map (λ x. x.order) (map (plan_supply instances) inputs)) ≡ true
