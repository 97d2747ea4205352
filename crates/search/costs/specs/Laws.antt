-- Laws of costs.
use Rattle.std.specs.Prelude.{◌≡◌, ℕ, ◌≤◌, List, ◌∷◌, flat_map}
use Rattle.query.specs.declared.query.TableInstance.{TableInstance}
use Rattle.physical.specs.declared.plan.Node.{Node}
use Rattle.physical.specs.declared.plan.Plan.{Plan, out-Plan}
use Rattle.statistics.specs.declared.counts.Statistics.{Statistics}
use Rattle.costs.specs.declared.nodes.Inputs.{Inputs}
use Rattle.costs.specs.Costs.{node_cost, subplans}

-- the same rows, at no greater cost
pub record IsCheaper (x y : Inputs) : Type 0 where
  pub first : x.first.cost ≤ y.first.cost
  pub first_rows : x.first.rows ≡ y.first.rows
  pub second : x.second.cost ≤ y.second.cost
  pub second_rows : x.second.rows ≡ y.second.rows
  pub later : x.later ≤ y.later

-- a node over cheaper inputs costs no more
abbrev pub NodesAreMonotone : Type 0
NodesAreMonotone = (S : Statistics) (instances : List TableInstance) (node : Node) (rows : ℕ) (x y : Inputs) → IsCheaper x y → node_cost S instances node rows x ≤ node_cost S instances node rows y

-- the plans of a plan's nodes, by its root and its inputs
abbrev pub SubplansByInputs : Type 0
SubplansByInputs = (p : Plan) → subplans p ≡ p ∷ flat_map subplans (out-Plan p).inputs
