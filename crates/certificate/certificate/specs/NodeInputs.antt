-- How many inputs the nodes of a plan have.
use Rattle.std.specs.Prelude.{◌≡◌, ℕ, ◌<◌, List, ◌∷◌, length, flat_map, Ok}
use Rattle.std.specs.List.{AllByRecursion}
use Rattle.schema.specs.declared.schema.Schema.{Schema}
use Rattle.query.specs.declared.query.Query.{Query}
use Rattle.query.specs.Bound.{IsBoundOver}
use Rattle.physical.specs.declared.plan.JoinMethod.{JoinMethod}
use Rattle.physical.specs.declared.plan.JoinMethod.TheVariants.{NestedLoop, Hash, Merge}
use Rattle.physical.specs.declared.plan.Matching.{Matching}
use Rattle.physical.specs.declared.plan.Matching.TheVariants.{Inner, Left, Semi, Anti}
use Rattle.physical.specs.declared.plan.Operator.{Operator}
use Rattle.physical.specs.declared.plan.Operator.TheVariants.{Scan, IndexScan, Filter, FilterSubqueries, Projection, JoinRows, IndexJoin, GroupRows, DistinctRows}
use Rattle.physical.specs.declared.plan.Node.{Node}
use Rattle.physical.specs.declared.plan.Node.TheVariants.{Implements, Sort}
use Rattle.physical.specs.declared.plan.Plan.{Plan, fold-Plan}
use Rattle.physical.specs.declared.plan.Plan.TheOpen.{Plan-F}
use Rattle.certificate.specs.declared.certificate.Certificate.{Certificate}
use Rattle.certificate.specs.Replay.{replayed}

abbrev pub IsInner : Matching → Type 0
IsInner (Inner C) = Unit {0}
IsInner (Left C) = ⊥
IsInner (Semi C) = ⊥
IsInner (Anti S M) = ⊥

-- what merges is an inner join
abbrev pub JoinsBy : JoinMethod → Matching → Type 0
JoinsBy NestedLoop j = Unit {0}
JoinsBy Hash j = Unit {0}
JoinsBy (Merge a b) j = IsInner j

-- the operator takes so many inputs: a filter with subqueries one for its rows, and one for each class that its conditions name
abbrev pub TakesInputs : Operator → ℕ → Type 0
TakesInputs (Scan o) inputs = inputs ≡ 0
TakesInputs (IndexScan a C) inputs = inputs ≡ 0
TakesInputs (Filter C) inputs = inputs ≡ 1
TakesInputs (FilterSubqueries C) inputs = 0 < inputs
TakesInputs (Projection K) inputs = inputs ≡ 1
TakesInputs (JoinRows m j) inputs = (inputs ≡ 2) × JoinsBy m j
TakesInputs (IndexJoin a j) inputs = inputs ≡ 1
TakesInputs (GroupRows m K G) inputs = inputs ≡ 1
TakesInputs (DistinctRows m) inputs = inputs ≡ 1

abbrev pub NodeTakes : Node → ℕ → Type 0
NodeTakes (Implements line operator) inputs = TakesInputs operator inputs
NodeTakes (Sort keys) inputs = inputs ≡ 1

-- the nodes of a plan, each before its inputs and with how many it has
abbrev pub nodes_layer : Plan-F (List (Node × ℕ)) → List (Node × ℕ)
nodes_layer p = (p.node, length p.inputs) ∷ flat_map (λ nodes. nodes) p.inputs

unfoldable pub nodes_of : Plan → List (Node × ℕ)
nodes_of = fold-Plan (List (Node × ℕ)) nodes_layer

-- each node has the inputs that it takes
abbrev pub HaveInputs : Plan → Type 0
HaveInputs p = AllByRecursion (λ n. NodeTakes n.0 n.1) (nodes_of p)

-- so has each of the plan of a certificate that replays
abbrev pub NodesHaveInputs : Type 0
NodesHaveInputs = (S : Schema) (q : Query) → IsBoundOver S q → (c : Certificate) → replayed q c ≡ Ok c → HaveInputs c.plan
