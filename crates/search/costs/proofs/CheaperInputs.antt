-- A node over cheaper inputs costs no more.
use Rattle.std.proofs.Common.{◌≡◌, ap, subst, ℕ, ◌+◌, ◌*◌, ◌≤◌, le_refl, List, slice_get, arith}
use Rattle.std.proofs.Math.Nat.{mul-le-mul_left}
use Rattle.query.specs.declared.query.TableInstance.{TableInstance}
use Rattle.physical.specs.declared.plan.JoinMethod.{JoinMethod}
use Rattle.physical.specs.declared.plan.JoinMethod.TheVariants as join
use Rattle.physical.specs.declared.plan.GroupMethod.{GroupMethod}
use Rattle.physical.specs.declared.plan.GroupMethod.TheVariants as group
use Rattle.physical.specs.declared.plan.Operator.{Operator}
use Rattle.physical.specs.declared.plan.Operator.TheVariants.{Scan, IndexScan, Filter, FilterSubqueries, Projection, JoinRows, IndexJoin, GroupRows, DistinctRows}
use Rattle.physical.specs.declared.plan.Node.{Node}
use Rattle.physical.specs.declared.plan.Node.TheVariants.{Implements, Sort}
use Rattle.statistics.specs.declared.counts.Statistics.{Statistics}
use Rattle.costs.specs.declared.nodes.Inputs.{Inputs}
use Rattle.costs.specs.Numbers.{binary_digits}
use Rattle.costs.specs.Costs.{join_cost, group_cost, operator_cost, node_cost, of_instance, probe_cost}
use Rattle.costs.specs.Laws.{IsCheaper, NodesAreMonotone}
use Rattle.costs.proofs.Cuts.{cut-le}

times-le : (n m a b : ℕ) → n ≡ m → a ≤ b → n * a ≤ m * b
times-le n m a b is le = subst (λ k. n * a ≤ k * b) is (mul-le-mul_left n le)

module _ (S : Statistics) (instances : List TableInstance) (rows : ℕ) (x y : Inputs) (cheaper : IsCheaper x y) where
  join-le : (method : JoinMethod) → join_cost method x ≤ join_cost method y
  join-le join.NestedLoop = omega (arith, cheaper.first, times-le _ _ _ _ cheaper.first_rows cheaper.second)
  join-le join.Hash = omega (arith, cheaper.first, cheaper.first_rows, cheaper.second, cheaper.second_rows)
  join-le (join.Merge a b) = omega (arith, cheaper.first, cheaper.first_rows, cheaper.second, cheaper.second_rows)

  group-le : (method : GroupMethod) → group_cost method x ≤ group_cost method y
  group-le group.Hash = omega (arith, cheaper.first, cheaper.first_rows)
  group-le group.Sorted = omega (arith, cheaper.first, cheaper.first_rows)

  operator-le : (o : Operator) → operator_cost S instances o rows x ≤ operator_cost S instances o rows y
  operator-le (Scan o) = le_refl _
  operator-le (IndexScan a C) = le_refl _
  operator-le (Filter C) = omega (arith, cheaper.first, cheaper.first_rows)
  operator-le (FilterSubqueries C) = let more : 1 + x.later ≤ 1 + y.later = omega (arith, cheaper.later) in omega (arith, cheaper.first, times-le _ _ _ _ cheaper.first_rows more)
  operator-le (Projection K) = omega (arith, cheaper.first)
  operator-le (JoinRows method j) = join-le method
  operator-le (IndexJoin a j) = omega (arith, cheaper.first, times-le _ _ _ _ cheaper.first_rows (le_refl (of_instance (probe_cost S a.index) (slice_get instances a.instance))))
  operator-le (GroupRows method K G) = group-le method
  operator-le (DistinctRows method) = group-le method

  node-le : (node : Node) → node_cost S instances node rows x ≤ node_cost S instances node rows y
  node-le (Implements line o) = cut-le _ _ (operator-le o)
  node-le (Sort keys) = cut-le _ _ (omega (arith, cheaper.first, ap (λ n. n * binary_digits n) cheaper.first_rows))

pub nodes_are_monotone : NodesAreMonotone
nodes_are_monotone S instances node rows x y cheaper = node-le S instances rows x y cheaper node
